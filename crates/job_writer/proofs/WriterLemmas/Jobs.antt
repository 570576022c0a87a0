-- The canonical text of a job is a text of that job, and it is short.
use Rattle.std.proofs.Common.{zero, suc, ◌-◌, ◌^◌, inl, inr, true, true≢false, ◌≡◌, ℕ, ◌<◌, ◌≤◌, List, [], ◌∷◌, ◌++◌, length, codes, false, Option, Some, None, refl, sym, ap, subst, ◌∙◌, arith, append-nil, length-append}
use Rattle.std.specs.Prelude.{filter, IsTrue, IfSome, slice_get}
use Rattle.seq_objects.specs.Batches.{kind_of}
use Rattle.seq_objects.specs.Objects.{number_of}
use Rattle.seq_objects.specs.Words.{kind_words, name_words, verb_words, argument_words, op_words}
use Rattle.sp_order.specs.Objects.{number_in, with_number, AreByFirstUse, name_of_number, AreNamed}
use Rattle.std.proofs.lemmas.List.{length-map}
use Rattle.std.proofs.lemmas.Option.{slice_get_within}
use Rattle.job_names.specs.declared.name.Name.{Name}
use Rattle.job_names.specs.Names.{AreSpelled, is_spelled, spelling}
use Rattle.job_writer.specs.Code.Writable.{texts_of, AreWritable}
use Rattle.seq_objects.specs.declared.act.Act.{Act}
use Rattle.seq_objects.specs.declared.act.Act.TheVariants.{Call}
use Rattle.seq_objects.specs.declared.op.Op.{Op}
use Rattle.seq_objects.specs.declared.op.Op.TheVariants.{CounterAdd}
use Rattle.sp_order.specs.Precedence.{Tree, leaf, leaves, leaf_count}
use Rattle.sp_order.specs.Depth.{tree_depth, depth_of}
use Rattle.sp_order.specs.Jobs.{JobValue, IsJob}
use Rattle.job_syntax.specs.declared.lexer.word.WordOnLine.{WordOnLine}
use Rattle.job_lang.specs.ActNumbers.{op_number, IsSmall, AreSmall}
use Rattle.job_writer.specs.Code.Smalls.{IsSmallLeaf, AreSmallLeaves}
use Rattle.job_lang.specs.Meaning.{sources_in}
use Rattle.sp_order.specs.Precedence.{IsBeforeFrom}
use Rattle.sp_order.specs.Sources.{AreSources, MayTake, TakeReplies}
use Rattle.sp_order.specs.Phases.{HasNoSources}
use Rattle.std.specs.List.{AllByRecursion}
use Rattle.job_syntax.specs.Code.Shown.{AreShown}
use Rattle.job_syntax.proofs.ParserLemmas.Uses.{tokens_known}
use Rattle.job_syntax.specs.Text.{begins_in_chunk, forbidden_line_from}
use Rattle.job_syntax.specs.Words.{words_on_lines}
use Rattle.job_syntax.specs.Grammar.{nothing}
use Rattle.job_syntax.specs.Faults.{has_good_numbers}
use Rattle.job_lang.specs.Limits.{first_line, depends_on_copy}
use Rattle.job_lang.specs.Language.{IsJobOf}
use Rattle.job_writer.specs.Canonical.{WrittenLeaf, is_source, written_from, written_leaves, tree_text, shape_text, canonical_text}
use Rattle.seq_objects.proofs.Elements.{each_unmapped, each_so, each_both}
use Rattle.job_writer.proofs.WriterLemmas.Grown.{Grown, lone, shape_of, leaves_of, size, grow, Each, each_grown, text_of, text_is}
use Rattle.job_writer.proofs.WriterLemmas.Items.{AreGood, IsWell, AreWell, acts_of, sources_of, items_of, job_again, count_is, nests_within, no_flags, fit, are_good}
use Rattle.job_writer.proofs.WriterLemmas.Bytes.{ArePlain, bare_same, none_forbidden, plain_append, plain_grown, short_tree, IsFew, short_leaf, IsUnnamed, plain_short}
use Rattle.job_writer.proofs.WriterLemmas.Words.{IsSaid, AreSaid, said_from, grown_said}
use Rattle.job_writer.proofs.WriterLemmas.Kinds.{IsNamedAt}
use Rattle.sp_order.proofs.ObjectLemmas.{most_used, number_given}
use Rattle.job_lang.proofs.ExpandLemmas.Numbering.{kind_with}
use Rattle.job_writer.proofs.WriterLemmas.Sources.{acts_from, sources_from, length_from, found_source, source_found, AreInRow, at_from, at_grown, each_from, each_get, IsFound, Sourced, sourced, tree_sources, no_source}
use Rattle.job_writer.proofs.WriterLemmas.Shown.{all_shown, one_shown}

-- the text of a shape, with blanks after it
grown_is_job : (names : List (List ℕ)) (grown : Grown) (blanks : List ℕ) → size grown ≤ 20000 → tree_depth (shape_of grown) ≤ 32 → Each (IsSaid names) grown → Each IsWell grown → AreNamed (acts_of (leaves_of grown)) names
    → sources_in true [] 0 (items_of names grown nothing) ≡ sources_of (leaves_of grown) → AreShown [] nothing (items_of names grown nothing)
    → ArePlain blanks → begins_in_chunk blanks ≡ false → said_from 1 blanks ≡ []
    → IsJobOf (text_of names grown ++ blanks) (record { shape = Some (shape_of grown); acts = acts_of (leaves_of grown); sources = sources_of (leaves_of grown); names = names })
grown_is_job names grown blanks few deep good well named sources shown plain ends silent =
    let text = text_of names grown ++ blanks in
    let items = items_of names grown nothing in
    let all_plain : ArePlain text = plain_append (text_of names grown) blanks (plain_grown names grown good) plain in
    let bare = bare_same text all_plain in
    let words = ap (said_from 1) bare ∙ grown_said names grown 1 blanks nothing [] good ends silent ∙ append-nil _ in
    let fits = fit names grown nothing well tt in
    record {
      allowed = ap (λ t. forbidden_line_from 1 t) bare ∙ none_forbidden 1 text all_plain;
      items = items;
      read = record {
        derives = record { writes = sym words; fits = fits };
        numbers = each_unmapped (λ (token : WordOnLine). token.word) (λ word. IsTrue (has_good_numbers word)) (words_on_lines text) (subst AreGood (sym words) (are_good names grown nothing tt));
        nests = omega (arith, nests_within names grown nothing, deep);
        known = tokens_known (words_on_lines text) items (sym words) fits shown;
      };
      few = omega (arith, count_is names grown nothing, few);
      small = ap (λ flags. first_line flags (filter (λ token. depends_on_copy token.word) (words_on_lines text))) (no_flags names 0 grown nothing);
      means = job_again names grown well sources named;
    }

-- what the sources of a job whose leaves take replies alone say of its leaves as they are written

module _ (tree : Tree) (acts : List Act) (sources : List (Option ℕ)) (are : AreSources (Some tree) acts sources) where
  same_act : (a b : Act) (i : ℕ) → slice_get acts i ≡ Some a → slice_get acts i ≡ Some b → a ≡ b
  same_act a b i e f = cc

  are_well : TakeReplies acts sources → AreWell (written_from sources 0 acts sources)
  are_well take = each_from IsWell sources 0 acts sources
      (λ n i act source place e f. record {
        stands = λ u is_u.
            let at = f ∙ ap (λ s. Some s) is_u in
            let is = are.each i u at in
            let call = (take i u at).0 in
            (call.0, (same_act act (Call call.0) i e call.1, subst (λ (taking : Act). MayTake taking is.from) (same_act is.act (Call call.0) i is.is call.1) is.takes));
        calls = λ named.
            let number : n ≡ i = omega (arith, place) in
            let found = found_source sources i (subst (λ n. is_source sources n ≡ true) number named) in
            let call = (take found.0 i found.1).1 in
            (call.0, same_act act (Call call.0) i e call.1);
      })

  are_found : AllByRecursion (IsFound sources tree 0 (λ u. ⊥)) (written_from sources 0 acts sources)
  are_found = each_from (IsFound sources tree 0 (λ u. ⊥)) sources 0 acts sources
      (λ n i act source place e f u is_u.
      let found = f ∙ ap (λ s. Some s) is_u in
      let number : i ≡ n = omega (arith, place) in
      inl (subst (IsBeforeFrom 0 tree u) number (are.each i u found).before, source_found sources i u found))

-- the same of them in their shape
module _ (names : List (List ℕ)) (grown : Grown) (all : List (Option ℕ)) (in_row : AreInRow all 0 (leaves_of grown)) (found : AllByRecursion (IsFound all (shape_of grown) 0 (λ u. ⊥)) (leaves_of grown)) where
  sourced_now : Sourced all grown 0 (λ u. ⊥)
  sourced_now = sourced all grown 0 (λ u. ⊥) (at_grown all 0 grown in_row) (each_grown _ grown found)

  sources_now : AreWell (leaves_of grown) → size grown ≤ 20000 → sources_in true [] 0 (items_of names grown nothing) ≡ sources_of (leaves_of grown)
  sources_now well few =
      tree_sources names all grown 0 true [] (λ u. ⊥) nothing (at_grown all 0 grown in_row) (each_grown _ grown well) sourced_now (λ u never. elim never [ ]) tt (omega (arith, few))
      ∙ append-nil (sources_of (leaves_of grown))

  shown_now : AreShown [] nothing (items_of names grown nothing)
  shown_now = all_shown names all grown 0 [] nothing (λ u. ⊥) nothing (at_grown all 0 grown in_row) sourced_now (λ u never. elim never [ ]) tt

-- each number has a name that is spelled as one
named_from : (names : List (List ℕ)) (number : ℕ) → AreSpelled names → number ≤ length names → IsNamedAt names number
named_from names zero spelled few = tt
named_from [] (suc place) spelled few = absurd (omega (arith, few))
named_from (text ∷ names) (suc zero) spelled few = spelled.0
named_from (text ∷ names) (suc (suc place)) spelled few = named_from names (suc place) spelled.1 (omega (arith, few))

said_leaves : (names : List (List ℕ)) (written : List WrittenLeaf) → AreSpelled names → AllByRecursion (λ act. number_in act ≤ length names) (acts_of written) → AreSmallLeaves written → AreSaid names written
said_leaves names [] spelled below small = tt
said_leaves names (one ∷ written) spelled below small =
    (record { small = small.0; named = named_from names (number_in one.act) spelled below.0 }, said_leaves names written spelled below.1 small.1)

no_names : (count : ℕ) (names : List (List ℕ)) → 0 ≡ length names → names ≡ []
no_names count [] e = refl
no_names count (text ∷ names) e = absurd (omega (arith, e))

tree_is_job : (names : List (List ℕ)) (all : List (Option ℕ)) (tree : Tree) (written : List WrittenLeaf) → length written ≡ leaves tree → leaves tree ≤ 20000 → tree_depth tree ≤ 32 → AreSaid names written → AreWell written → AreNamed (acts_of written) names
    → AreInRow all 0 written → AllByRecursion (IsFound all tree 0 (λ u. ⊥)) written
    → IsJobOf (tree_text names tree written ++ codes "\n") (record { shape = Some tree; acts = acts_of written; sources = sources_of written; names = names })
tree_is_job names all tree written same =
    let grown = grow tree written same in
    subst (λ (whole : Tree × List WrittenLeaf). leaves whole.0 ≤ 20000 → tree_depth whole.0 ≤ 32 → AreSaid names whole.1 → AreWell whole.1 → AreNamed (acts_of whole.1) names → AreInRow all 0 whole.1 → AllByRecursion (IsFound all whole.0 0 (λ u. ⊥)) whole.1
    → IsJobOf (tree_text names whole.0 whole.1 ++ codes "\n") (record { shape = Some whole.0; acts = acts_of whole.1; sources = sources_of whole.1; names = names })) (λ i. (grown.1.0 i, grown.1.1 i))
    (λ few deep good well named row found.
    subst (λ text. IsJobOf (text ++ codes "\n") (record { shape = Some (shape_of grown.0); acts = acts_of (leaves_of grown.0); sources = sources_of (leaves_of grown.0); names = names })) (sym (text_is names grown.0))
    (grown_is_job names grown.0 (codes "\n") few deep (each_grown _ grown.0 good) (each_grown _ grown.0 well) named (sources_now names grown.0 all row found well few) (shown_now names grown.0 all row found) refl refl refl))

shape_is_job : (shape : Option Tree) (acts : List Act) (sources : List (Option ℕ)) (names : List (List ℕ)) → leaf_count shape ≡ length acts → length acts ≤ 20000 → AreSources shape acts sources → TakeReplies acts sources → AreNamed acts names → depth_of shape ≤ 32 → AreSmallLeaves (written_from sources 0 acts sources)
    → IsJobOf (shape_text names shape (written_from sources 0 acts sources)) (record { shape = shape; acts = acts; sources = sources; names = names })
shape_is_job None [] [] names same few are take named deep small =
    let none = no_names 0 names named.numbers in
    record {
      allowed = refl;
      items = nothing;
      read = record { derives = record { writes = refl; fits = tt }; numbers = tt; nests = omega arith; known = tt };
      few = omega arith;
      small = refl;
      means = λ i. record { shape = None; acts = []; sources = []; names = none i };
    }
shape_is_job None [] (source ∷ sources) names same few are take named deep small = let e = are.as_many in absurd (omega (arith, e))
shape_is_job None (act ∷ acts) sources names same few are take named deep small = absurd (omega (arith, same))
shape_is_job (Some tree) acts sources names same few are take named deep small =
    let written = written_from sources 0 acts sources in
    let count = length_from sources 0 acts sources are.as_many in
    let acts_are = acts_from sources 0 acts sources are.as_many in
    let sources_are = sources_from sources 0 acts sources are.as_many in
    let named_now : AreNamed (acts_of written) names = subst (λ a. AreNamed a names) (sym acts_are) named in
    let good = said_leaves names written named.spelled (most_used (acts_of written) 0 (length names) named_now.numbers).1 small in
    subst (λ (job : List Act × List (Option ℕ)). IsJobOf (tree_text names tree written ++ codes "\n") (record { shape = Some tree; acts = job.0; sources = job.1; names = names })) (λ i. (acts_are i, sources_are i))
    (tree_is_job names sources tree written (count ∙ sym same) (omega (arith, same, few)) deep good (are_well tree acts sources are take) named_now (at_from sources 0 acts sources) (are_found tree acts sources are))

pub canonical_is_job : (job : JobValue) → IsJob job → TakeReplies job.acts job.sources → depth_of job.shape ≤ 32 → AreSmallLeaves (written_leaves job) → IsJobOf (canonical_text job) job
canonical_is_job job is_job take deep small = shape_is_job job.shape job.acts job.sources job.names is_job.leaves is_job.most is_job.sources take is_job.objects deep small

shape_is_short : (shape : Option Tree) (written : List WrittenLeaf) → leaf_count shape ≡ length written → length written ≤ 20000 → AreSmallLeaves written → AllByRecursion IsFew written → length (shape_text [] shape written) < 1000000
shape_is_short None written same few small numbers = omega arith
shape_is_short (Some tree) written same few small numbers =
    let short = each_so _ _ (λ one fits. short_leaf one fits.0 fits.1) written (each_both _ _ written small numbers) in
    omega (arith, length-append (tree_text [] tree written) (codes "\n"), short_tree 49 tree written (sym same) short, same, few)

pub canonical_is_short : (job : JobValue) → IsJob job → AreSmallLeaves (written_leaves job) → job.names ≡ [] → length (canonical_text job) < 1000000
canonical_is_short job is_job small nameless =
    let count = length_from job.sources 0 job.acts job.sources is_job.sources.as_many in
    let leaves = is_job.leaves in
    let most = is_job.most in
    subst (λ names. length (shape_text names job.shape (written_leaves job)) < 1000000) (sym nameless)
    (shape_is_short job.shape (written_leaves job) (leaves ∙ sym count) (omega (arith, count, most)) small
    (each_from IsFew job.sources 0 job.acts job.sources (λ n i act source place e f. let within = slice_get_within job.acts i act e in omega (arith, place, within, most))))

-- the numbers of acts and sources that fit 32 bits
pub small_from : (all : List (Option ℕ)) (acts : List Act) (sources : List (Option ℕ)) → length acts ≤ 2 ^ 32 → AreSmall acts → AllByRecursion (λ (source : Option ℕ). source ≡ None) sources → AreSmallLeaves (written_from all 0 acts sources)
small_from all acts sources few small each = each_from IsSmallLeaf all 0 acts sources
    (λ n i act source place e f.
    let within = slice_get_within acts i act e in
    record { act = each_get _ acts i act small e; number = omega (arith, place, within, few); source = subst (λ s. IfSome s (λ source. source < 2 ^ 32)) (sym (each_get _ sources i source each f)) tt })

unnamed_from : (all : List (Option ℕ)) (acts : List Act) (sources : List (Option ℕ)) → ((n : ℕ) → is_source all n ≡ false) → AllByRecursion (λ (source : Option ℕ). source ≡ None) sources → AllByRecursion IsUnnamed (written_from all 0 acts sources)
unnamed_from all acts sources none each = each_from IsUnnamed all 0 acts sources (λ n i act source place e f. record { named = none n; source = each_get _ sources i source each f })

no_source_is : (all : List (Option ℕ)) (n : ℕ) → AllByRecursion (λ (source : Option ℕ). source ≡ None) all → is_source all n ≡ false
no_source_is [] n each = refl
no_source_is (Some source ∷ all) n each = let e = each.0 in absurd (cc e)
no_source_is (None ∷ all) n each = no_source_is all n each.1

shape_is_plain : (shape : Option Tree) (written : List WrittenLeaf) → leaf_count shape ≡ length written → length written ≤ 20000 → AreSmallLeaves written → AllByRecursion IsUnnamed written → length (shape_text [] shape written) < 700000
shape_is_plain None written same few small unnamed = omega arith
shape_is_plain (Some tree) written same few small unnamed =
    let short = each_so _ _ (λ one fits. plain_short one fits.0 fits.1) written (each_both _ _ written small unnamed) in
    omega (arith, length-append (tree_text [] tree written) (codes "\n"), short_tree 35 tree written (sym same) short, same, few)

pub plain_is_short : (job : JobValue) → IsJob job → AreSmallLeaves (written_leaves job) → job.names ≡ [] → HasNoSources job → length (canonical_text job) < 700000
plain_is_short job is_job small nameless none =
    let count = length_from job.sources 0 job.acts job.sources is_job.sources.as_many in
    let leaves = is_job.leaves in
    let most = is_job.most in
    subst (λ names. length (shape_text names job.shape (written_leaves job)) < 700000) (sym nameless)
    (shape_is_plain job.shape (written_leaves job) (leaves ∙ sym count) (omega (arith, count, most)) small (unnamed_from job.sources job.acts job.sources (λ n. no_source_is job.sources n none) none))

-- the words of an operation in a report are a text of the job with this one call

one_is_job : (names : List (List ℕ)) (op : Op) → IsNamedAt names (number_of op) → AreNamed (Call op ∷ []) names → IsSmall (op_number op) → IsJobOf (op_words names op) (record { shape = Some leaf; acts = Call op ∷ []; sources = None ∷ []; names = names })
one_is_job names op named are small =
    let one : WrittenLeaf = record { number = 0; named = false; act = Call op; source = None } in
    subst (λ text. IsJobOf text (record { shape = Some leaf; acts = Call op ∷ []; sources = None ∷ []; names = names })) (append-nil (op_words names op))
    (grown_is_job names (lone one) [] (omega arith) (omega arith) (record { small = record { act = small; number = omega arith; source = tt }; named = named })
    (record { stands = (λ u e. absurd (cc e)); calls = (λ e. absurd (true≢false (sym e))) }) are (ap (λ s. s ∷ []) (no_source names (Call op) [])) (one_shown names (Call op)) refl refl refl)

-- the words do not depend on names that the operation does not use

words_by_name : (names others : List (List ℕ)) (op op' : Op) → kind_of op ≡ kind_of op' → name_words names (number_of op) ≡ name_words others (number_of op') → verb_words op ≡ verb_words op' → argument_words op ≡ argument_words op' → op_words names op ≡ op_words others op'
words_by_name names others op op' kind name verb argument i = (kind_words (kind i) ++ (name i ++ verb i)) ++ argument i

verb_with : (op : Op) (number : ℕ) → (verb_words op ≡ verb_words (with_number op number)) × ((argument_words op ≡ argument_words (with_number op number)) × (op_number op ≡ op_number (with_number op number)))
verb_with (CounterAdd _ addend) number = (refl, (refl, refl))
verb_with _ number = (refl, (refl, refl))

-- the two operations of one call are one
only_call : (op first : Op) (u : ℕ) → slice_get (Call op ∷ []) u ≡ Some (Call first) → op ≡ first
only_call op first zero e = cc
only_call op first (suc u) e = cc

alone : (op : Op) (names : List (List ℕ)) → AreSpelled names → AreByFirstUse 0 (number_of op ∷ []) (length names) → AreNamed (Call op ∷ []) names
alone op names spelled numbers = record {
  spelled = spelled;
  numbers = numbers;
  kinds = λ u v first second e f some same. ap kind_of (sym (only_call op first u e) ∙ only_call op second v f);
  apart = λ u v first second e f some some' kind differ. absurd (differ (ap number_of (sym (only_call op first u e) ∙ only_call op second v f)));
}

pub nameless_words : (names : List (List ℕ)) (op : Op) → number_of op ≡ 0 → IsSmall (op_number op) → IsJobOf (op_words names op) (record { shape = Some leaf; acts = Call op ∷ []; sources = None ∷ []; names = [] })
nameless_words names op none small =
    subst (λ text. IsJobOf text (record { shape = Some leaf; acts = Call op ∷ []; sources = None ∷ []; names = [] }))
    (words_by_name [] names op op refl (ap (name_words []) none ∙ sym (ap (name_words names) none)) refl refl)
    (one_is_job [] op (subst (IsNamedAt []) (sym none) tt) (alone op [] tt (inl (omega (arith, none), refl))) small)

pub named_words : (names : List (List ℕ)) (op : Op) → 0 < number_of op → is_spelled (name_of_number names (number_of op)) ≡ true → IsSmall (op_number op)
    → IsJobOf (op_words names op) (record { shape = Some leaf; acts = Call (with_number op 1) ∷ []; sources = None ∷ []; names = name_of_number names (number_of op) ∷ [] })
named_words names op some spelled small =
    let text = name_of_number names (number_of op) in
    let is = verb_with op 1 in
    let one = number_given op 1 in
    let here : number_of op ≡ suc (number_of op - 1) = omega (arith, some) in
    subst (λ words. IsJobOf words (record { shape = Some leaf; acts = Call (with_number op 1) ∷ []; sources = None ∷ []; names = text ∷ [] }))
    (sym (words_by_name names (text ∷ []) op (with_number op 1) (sym (kind_with op 1)) (ap (name_words names) here ∙ sym (ap (name_words (text ∷ [])) one)) is.0 is.1.0))
    (one_is_job (text ∷ []) (with_number op 1) (subst (IsNamedAt (text ∷ [])) (sym one) spelled) (alone (with_number op 1) (text ∷ []) (spelled, tt) (inr (one ∙ omega arith, refl))) (subst IsSmall is.1.1 small))

-- the leaves of a job as they are written can be written
numbers_written : (written : List WrittenLeaf) (count : ℕ) → AllByRecursion (λ act. number_in act ≤ count) (acts_of written) → AllByRecursion (λ (one : WrittenLeaf). number_in one.act ≤ count) written
numbers_written [] count h = tt
numbers_written (one ∷ written) count h = (h.0, numbers_written written count h.1)

pub can_be_written : (job : JobValue) (names : List Name) → IsJob job → texts_of names ≡ job.names → AreWritable names (written_leaves job)
can_be_written job names is_job same =
    let written = written_leaves job in
    let acts_are = acts_from job.sources 0 job.acts job.sources is_job.sources.as_many in
    let count : length job.names ≡ length names = ap length (sym same) ∙ length-map names (λ name. spelling name) in
    let below = (most_used job.acts 0 (length job.names) is_job.objects.numbers).1 in
    record {
      numbers = numbers_written written (length names) (subst (λ n. AllByRecursion (λ act. number_in act ≤ n) (acts_of written)) count (subst (AllByRecursion (λ act. number_in act ≤ length job.names)) (sym acts_are) below));
      spelled = subst AreSpelled (sym same) is_job.objects.spelled;
    }
