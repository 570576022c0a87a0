-- Sources are call leaves that stand before the leaves that use them.
use Rattle.std.proofs.Common.{ℕ, zero, suc, ◌≡◌, ◌+◌, ◌*◌, ◌<◌, ◌≤◌, ◌⊎◌, inl, inr, Bool, true, false, not, List, [], ◌∷◌, ◌++◌, length, Option, Some, None, arith, refl, sym, ap, ◌∙◌, subst, length-append}
use Rattle.std.specs.Prelude.{if◌then◌else◌, option_and_then, slice_get}
use Rattle.seq_objects.specs.declared.act.Act.{Act}
use Rattle.seq_objects.specs.declared.act.Act.TheVariants.{Call}
use Rattle.seq_objects.specs.declared.op.Op.{Op}
use Rattle.seq_objects.specs.declared.verb.Verb.{Verb}
use Rattle.seq_objects.specs.Verbs.{takes_argument}
use Rattle.seq_objects.specs.Parts.{op_of, argument_of, has_argument}
use Rattle.seq_objects.proofs.Parts.{argument_given, takes_given}
use Rattle.sp_order.specs.Precedence.{Tree, leaf, seq, IsBefore}
use Rattle.sp_order.specs.Sources.{IsCallLeaf, IsSource, AreSources, TakeReplies}
use Rattle.job_names.specs.declared.name.Name.{Name}
use Rattle.job_names.specs.Names.{same_name}
use Rattle.job_syntax.specs.declared.lexer.word.Word.TheVariants.{Named}
use Rattle.job_syntax.specs.Blocks.{word_number, copies_of}
use Rattle.job_syntax.specs.Grammar.{Leaf, work, call, bound, BlockKind, seq_block, par_block, for_loop, pfor_loop, Items, nothing, leaf_then, block_then, is_loop, is_par}
use Rattle.job_syntax.specs.Grammar as grammar
use Rattle.job_syntax.proofs.ParserLemmas.NamesSeen.{AreFlat, flat_items}
use Rattle.job_syntax.specs.Arguments.{name_used}
use Rattle.job_lang.specs.Counts.{count}
use Rattle.job_lang.specs.Joins.{join_of}
use Rattle.job_lang.specs.Meaning.{each_copy, Known, leaf_known, source_of, known_by, known_behind, known_next, sources_in, argument_in, act_of, acts_in, in_block, in_block_from, join_list, join_in, copy_shapes, shapes_in}
use Rattle.job_syntax.proofs.ParserLemmas.Calls.{call_is_leaf, verb_takes}
use Rattle.job_lang.proofs.ExpandLemmas.Before.{total, joins_series, join_is, IsBeforeIn, IsBeforeOpt}
use Rattle.job_lang.proofs.ExpandLemmas.Blocks.{each_length, block_length, block_length_from}
use Rattle.job_lang.proofs.ExpandLemmas.Joined.{before_left, before_right, before_cross, joined_of, joined_list, before_is_smaller}
use Rattle.job_lang.proofs.ExpandLemmas.Leaves.{acts_count, shapes_count, joined_total, copy_total, each_total, block_total}

-- the act calls; and calls with an argument that stands as 0
abbrev pub Calls : Act → Type 0
Calls act = (op : Op) × (act ≡ Call op)

abbrev pub Takes : Act → Type 0
Takes act = (op : Op) × ((act ≡ Call op) × ((has_argument op ≡ true) × (argument_of op ≡ 0)))

-- leaf v has the source u, where the leaves are numbered from `first` on
abbrev pub IsSourceIn : ℕ → List (Option ℕ) → ℕ → ℕ → Type 0
IsSourceIn first [] v u = ⊥
IsSourceIn first (s ∷ ss) v u = ((v ≡ first) × (s ≡ Some u)) ⊎ IsSourceIn (first + 1) ss v u

-- leaf u is such an act
abbrev pub ActIn : (Act → Type 0) → ℕ → List Act → ℕ → Type 0
ActIn P first [] u = ⊥
ActIn P first (a ∷ acts) u = ((u ≡ first) × P a) ⊎ ActIn P (first + 1) acts u

-- leaf u calls
abbrev pub IsCallIn : ℕ → List Act → ℕ → Type 0
IsCallIn first acts u = ActIn Calls first acts u

-- some known name stands for leaf u
abbrev pub HasLeaf : List Known → ℕ → Type 0
HasLeaf [] u = ⊥
HasLeaf (k ∷ known) u = (k.leaf ≡ u) ⊎ HasLeaf known u

has_append : (xs ys : List Known) (u : ℕ) → HasLeaf (xs ++ ys) u → HasLeaf xs u ⊎ HasLeaf ys u
has_append [] ys u h = inr h
has_append (x ∷ xs) ys u (inl e) = inl (inl e)
has_append (x ∷ xs) ys u (inr h) = elim (has_append xs ys u h) [ inl l ↦ inl (inr l) | inr r ↦ inr r ]

from_known : (series : Bool) (new known : List Known) (u : ℕ) → HasLeaf (known_next series new known) u → ((series ≡ true) × HasLeaf new u) ⊎ HasLeaf known u
from_known true new known u h = elim (has_append new known u h) [ inl l ↦ inl (refl, l) | inr r ↦ inr r ]
from_known false new known u h = inr h

one_of : (b : Bool) (here : ℕ) (rest : Option ℕ) (u : ℕ) → (if b then Some here else rest) ≡ Some u → (here ≡ u) ⊎ (rest ≡ Some u)
one_of true here rest u e = inl cc
one_of false here rest u e = inr e

name_known : (known : List Known) (name : Name) (u : ℕ) → leaf_known known name ≡ Some u → HasLeaf known u
name_known [] name u e = cc
name_known (k ∷ known) name u e = elim (one_of (same_name k.name name) k.leaf (leaf_known known name) u e) [ inl h ↦ inl h | inr h ↦ inr (name_known known name u h) ]

used_known : (known : List Known) (used : Option Name) (u : ℕ) → option_and_then (leaf_known known) used ≡ Some u → HasLeaf known u
used_known known None u e = cc
used_known known (Some name) u e = name_known known name u e

-- lists one behind the other
source_split : (first at : ℕ) (xs ys : List (Option ℕ)) (v u : ℕ) → at ≡ first + length xs → IsSourceIn first (xs ++ ys) v u → IsSourceIn first xs v u ⊎ IsSourceIn at ys v u
source_split first at [] ys v u e h = let same : first ≡ at = omega (arith, e) in inr (subst (λ f. IsSourceIn f ys v u) same h)
source_split first at (x ∷ xs) ys v u e (inl h) = inl (inl h)
source_split first at (x ∷ xs) ys v u e (inr h) =
    elim (source_split (first + 1) at xs ys v u (omega (arith, e)) h) [ inl l ↦ inl (inr l) | inr r ↦ inr r ]

source_range : (first : ℕ) (ss : List (Option ℕ)) (v u : ℕ) → IsSourceIn first ss v u → (first ≤ v) × (v < first + length ss)
source_range first [] v u h = elim h [ ]
source_range first (s ∷ ss) v u (inl h) = let e = h.0 in (omega (arith, e), omega (arith, e))
source_range first (s ∷ ss) v u (inr h) = let r = source_range (first + 1) ss v u h in let a = r.0 in let b = r.1 in (omega (arith, a), omega (arith, b))

act_left : (P : Act → Type 0) (first : ℕ) (xs ys : List Act) (u : ℕ) → ActIn P first xs u → ActIn P first (xs ++ ys) u
act_left P first [] ys u h = elim h [ ]
act_left P first (x ∷ xs) ys u (inl h) = inl h
act_left P first (x ∷ xs) ys u (inr h) = inr (act_left P (first + 1) xs ys u h)

act_right : (P : Act → Type 0) (first at : ℕ) (xs ys : List Act) (u : ℕ) → at ≡ first + length xs → ActIn P at ys u → ActIn P first (xs ++ ys) u
act_right P first at [] ys u e h = let same : at ≡ first = omega (arith, e) in subst (λ f. ActIn P f ys u) same h
act_right P first at (x ∷ xs) ys u e h = inr (act_right P (first + 1) at xs ys u (omega (arith, e)) h)

act_range : (P : Act → Type 0) (first : ℕ) (xs : List Act) (u : ℕ) → ActIn P first xs u → (first ≤ u) × (u < first + length xs)
act_range P first [] u h = elim h [ ]
act_range P first (x ∷ xs) u (inl h) = let e = h.0 in (omega (arith, e), omega (arith, e))
act_range P first (x ∷ xs) u (inr h) = let r = act_range P (first + 1) xs u h in let a = r.0 in let b = r.1 in (omega (arith, a), omega (arith, b))

-- how many sources there are
sources_count : (items : Items) (series : Bool) (known : List Known) (first : ℕ) → length (sources_in series known first items) ≡ count items
sources_count nothing series known first = refl
sources_count (leaf_then l more) series known first = omega (arith, sources_count more series (known_next series (known_by first l) known) (first + 1))
sources_count (block_then kind body more) series known first =
    let inner = not (is_par kind) in
    let next = known_next series (if is_loop kind then [] else known_behind first body) known in
    let e = block_length_from kind first (count body) (λ at. sources_in inner known at body) (λ at. sources_count body inner known at) in
    simp length-append (omega (arith, e, sources_count more series next (first + copies_of kind * count body)))

-- what is known behind items are calls among them
call_act : (l : Leaf) (c : ℕ) → grammar.IsCall true l → (op : Op) × (act_of c l ≡ Call op)
call_act (call verb object argument) c is = (op_of verb 0 (argument_in c argument), refl)
call_act (work argument) c is = elim is [ ]
call_act (bound name given) c is = elim is [ ]

given : (l : Leaf) (first c u : ℕ) → grammar.IsLeaf true l → HasLeaf (known_by first l) u → IsCallIn first (act_of c l ∷ []) u
given (bound name l) first c u is (inl e) = inl (sym e, call_act l c is)
given (bound name l) first c u is (inr h) = elim h [ ]
given (work argument) first c u is h = elim h [ ]
given (call verb object argument) first c u is h = elim h [ ]

block_calls : (kind : BlockKind) (c first u : ℕ) (known : List Known) (a : ℕ → List Act) → (HasLeaf known u → IsCallIn first (a c) u) → HasLeaf (if is_loop kind then [] else known) u → IsCallIn first (in_block kind c a) u
block_calls seq_block c first u known a one h = one h
block_calls par_block c first u known a one h = one h
block_calls (for_loop n) c first u known a one h = elim h [ ]
block_calls (pfor_loop n) c first u known a one h = elim h [ ]

known_calls : (items : Items) (first c u : ℕ) → AreFlat items → HasLeaf (known_behind first items) u → IsCallIn first (acts_in c items) u
known_calls nothing first c u are h = elim h [ ]
known_calls (leaf_then l more) first c u are h =
    elim (has_append (known_behind (first + 1) more) (known_by first l) u h) [
      | inl later ↦ inr (known_calls more (first + 1) c u are.1 later)
      | inr here ↦ act_left Calls first (act_of c l ∷ []) (acts_in c more) u (given l first c u are.0 here)
    ]
known_calls (block_then kind body more) first c u are h =
    let at = first + copies_of kind * count body in
    let a : ℕ → List Act = λ k. acts_in k body in
    elim (has_append (known_behind at more) (if is_loop kind then [] else known_behind first body) u h) [
      | inl later ↦ act_right Calls first at (in_block kind c a) (acts_in c more) u (omega (arith, block_length kind c (count body) a (λ k. acts_count body k))) (known_calls more at c u are.1 later)
      | inr here ↦ act_left Calls first (in_block kind c a) (acts_in c more) u (block_calls kind c first u (known_behind first body) a (λ k. known_calls body first c u are.0 k) here)
    ]

-- a leaf that has a source calls, with an argument that stands as 0
none_or_none : (b : Bool) (none : ℕ) → (if b then none else none) ≡ none
none_or_none true none = refl
none_or_none false none = refl

takes_named : (verb : Verb) (name : Name) → grammar.FitsVerb true (takes_argument verb) (Some (Named name)) → Takes (Call (op_of verb 0 0))
takes_named verb name fits =
    (op_of verb 0 0, (refl, (takes_given verb 0 0 ∙ verb_takes true (takes_argument verb) (Named name) fits, argument_given verb 0 0 ∙ none_or_none (takes_argument verb) 0)))

takes : (l : Leaf) (c : ℕ) (known : List Known) (u : ℕ) → grammar.IsLeaf true l → source_of known l ≡ Some u → Takes (act_of c l)
takes (work (Named name)) c known u is e = let never : false ≡ true = is in cc
takes (work _) c known u is e = cc
takes (call verb object (Some (Named name))) c known u is e = takes_named verb name is
takes (call verb object (Some _)) c known u is e = cc
takes (call verb object None) c known u is e = cc
takes (bound name l) c known u is e = takes l c known u (call_is_leaf true l is) e

copies_taken : (n m first u v : ℕ) (f : ℕ → List (Option ℕ)) (a : ℕ → List Act) → ((k : ℕ) → length (f k) ≡ m) → ((k : ℕ) → length (a k) ≡ m)
    → ((k c : ℕ) → IsSourceIn (first + k * m) (f k) v u → ActIn Takes (first + k * m) (a c) v)
    → IsSourceIn first (each_copy n f) v u → ActIn Takes first (each_copy n a) v
copies_taken zero m first u v f a fl al one h = elim h [ ]
copies_taken (suc n) m first u v f a fl al one h =
    elim (source_split first (first + n * m) (each_copy n f) (f n) v u (omega (arith, each_length n m f fl)) h) [
      | inl l ↦ act_left Takes first (each_copy n a) (a n) v (copies_taken n m first u v f a fl al one l)
      | inr r ↦ act_right Takes first (first + n * m) (each_copy n a) (a n) v (omega (arith, each_length n m a al)) (one n n r)
    ]

block_taken : (kind : BlockKind) (m first c u v : ℕ) (f : ℕ → List (Option ℕ)) (a : ℕ → List Act) → ((at : ℕ) → length (f at) ≡ m) → ((k : ℕ) → length (a k) ≡ m)
    → ((at c : ℕ) → IsSourceIn at (f at) v u → ActIn Takes at (a c) v)
    → IsSourceIn first (in_block_from kind first m f) v u → ActIn Takes first (in_block kind c a) v
block_taken seq_block m first c u v f a fl al one h = one first c h
block_taken par_block m first c u v f a fl al one h = one first c h
block_taken (for_loop n) m first c u v f a fl al one h = copies_taken (word_number n) m first u v (λ k. f (first + k * m)) a (λ k. fl (first + k * m)) al (λ k. one (first + k * m)) h
block_taken (pfor_loop n) m first c u v f a fl al one h = copies_taken (word_number n) m first u v (λ k. f (first + k * m)) a (λ k. fl (first + k * m)) al (λ k. one (first + k * m)) h

taken : (items : Items) (series : Bool) (known : List Known) (first c u v : ℕ) → AreFlat items → IsSourceIn first (sources_in series known first items) v u → ActIn Takes first (acts_in c items) v
taken nothing series known first c u v are h = elim h [ ]
taken (leaf_then l more) series known first c u v are (inl h) = inl (h.0, takes l c known u are.0 h.1)
taken (leaf_then l more) series known first c u v are (inr h) = inr (taken more series (known_next series (known_by first l) known) (first + 1) c u v are.1 h)
taken (block_then kind body more) series known first c u v are h =
    let m = count body in
    let at = first + copies_of kind * m in
    let inner = not (is_par kind) in
    let next = known_next series (if is_loop kind then [] else known_behind first body) known in
    let f : ℕ → List (Option ℕ) = λ at. sources_in inner known at body in
    let a : ℕ → List Act = λ k. acts_in k body in
    let fl : (at : ℕ) → length (f at) ≡ m = λ at. sources_count body inner known at in
    let al : (k : ℕ) → length (a k) ≡ m = λ k. acts_count body k in
    elim (source_split first at (in_block_from kind first m f) (sources_in series next at more) v u (omega (arith, block_length_from kind first m f fl)) h) [
      | inl l ↦ act_left Takes first (in_block kind c a) (acts_in c more) v (block_taken kind m first c u v f a fl al (λ from d h. taken body inner known from d u v are.0 h) l)
      | inr r ↦ act_right Takes first at (in_block kind c a) (acts_in c more) v (omega (arith, block_length kind c m a al)) (taken more series next at c u v are.1 r)
    ]

-- leaf u is before leaf v in shapes, and calls
abbrev pub Found : Bool → ℕ → List Tree → List Act → ℕ → ℕ → Type 0
Found series first shapes acts u v = IsBeforeIn series first shapes u v × IsCallIn first acts u

found_left : (series : Bool) (first : ℕ) (xs ys : List Tree) (ws zs : List Act) (u v : ℕ) → Found series first xs ws u v → Found series first (xs ++ ys) (ws ++ zs) u v
found_left series first xs ys ws zs u v f = (before_left series first xs ys u v f.0, act_left Calls first ws zs u f.1)

found_right : (series : Bool) (first at : ℕ) (xs ys : List Tree) (ws zs : List Act) (u v : ℕ) → at ≡ first + total xs → at ≡ first + length ws → Found series at ys zs u v → Found series first (xs ++ ys) (ws ++ zs) u v
found_right series first at xs ys ws zs u v e e' f =
    (before_right series first xs ys u v (subst (λ n. IsBeforeIn series n ys u v) e f.0), act_right Calls first at ws zs u e' f.1)

cross : (series : Bool) (first at : ℕ) (xs ys : List Tree) (u v : ℕ) → series ≡ true → at ≡ first + total xs → first ≤ u → u < at → at ≤ v → v < at + total ys → IsBeforeIn series first (xs ++ ys) u v
cross true first at xs ys u v is e a b c d = before_cross first xs ys u v a (omega (arith, b, e)) (omega (arith, c, e)) (omega (arith, d, e))
cross false first at xs ys u v is e a b c d = cc

-- one more item before others: `new` is what it gives to them
step : (series : Bool) (new known : List Known) (first at : ℕ) (xs ys : List Tree) (ws zs : List Act) (u v : ℕ) → at ≡ first + total xs → at ≡ first + length ws
    → (HasLeaf new u → IsCallIn first ws u) → at ≤ v → v < at + total ys
    → HasLeaf (known_next series new known) u ⊎ Found series at ys zs u v → HasLeaf known u ⊎ Found series first (xs ++ ys) (ws ++ zs) u v
step series new known first at xs ys ws zs u v e e' calls low high (inl k) =
    elim (from_known series new known u k) [
      | inl n ↦
          let calling = calls n.1 in
          let range = act_range Calls first ws u calling in
          let a = range.0 in
          let b = range.1 in
          inr (cross series first at xs ys u v n.0 e a (omega (arith, b, e')) low high, act_left Calls first ws zs u calling)
      | inr old ↦ inl old
    ]
step series new known first at xs ys ws zs u v e e' calls low high (inr f) = inr (found_right series first at xs ys ws zs u v e e' f)

-- where the sources of the copies of a loop are
copies_sourced : (n m : ℕ) (outer : Bool) (known : List Known) (first u v : ℕ) (f : ℕ → List (Option ℕ)) (g : ℕ → List Tree) (a : ℕ → List Act)
    → ((k : ℕ) → length (f k) ≡ m) → ((k : ℕ) → total (g k) ≡ m) → ((k : ℕ) → length (a k) ≡ m)
    → ((k c : ℕ) → IsSourceIn (first + k * m) (f k) v u → HasLeaf known u ⊎ Found true (first + k * m) (g c) (a c) u v)
    → IsSourceIn first (each_copy n f) v u → HasLeaf known u ⊎ Found outer first (each_copy n (λ k. join_list seq (g k))) (each_copy n a) u v
copies_sourced zero m outer known first u v f g a fl gl al one h = elim h [ ]
copies_sourced (suc n) m outer known first u v f g a fl gl al one h =
    let at = first + n * m in
    let shapes : ℕ → List Tree = λ k. join_list seq (g k) in
    let long = each_total n m shapes (λ k. joined_total seq_block (g k) ∙ gl k) in
    elim (source_split first at (each_copy n f) (f n) v u (omega (arith, each_length n m f fl)) h) [
      | inl l ↦ elim (copies_sourced n m outer known first u v f g a fl gl al one l) [
        | inl k ↦ inl k
        | inr x ↦ inr (found_left outer first (each_copy n shapes) (shapes n) (each_copy n a) (a n) u v x)
      ]
      | inr r ↦ elim (one n n r) [
        | inl k ↦ inl k
        | inr x ↦ inr (found_right outer first at (each_copy n shapes) (shapes n) (each_copy n a) (a n) u v (omega (arith, long)) (omega (arith, each_length n m a al))
            (joined_list true outer (g n) at u v x.0, x.1))
      ]
    ]

-- where those of a block are
block_sourced : (kind : BlockKind) (m : ℕ) (known : List Known) (first c u v : ℕ) (f : ℕ → List (Option ℕ)) (g : ℕ → List Tree) (a : ℕ → List Act)
    → ((at : ℕ) → length (f at) ≡ m) → ((k : ℕ) → total (g k) ≡ m) → ((k : ℕ) → length (a k) ≡ m)
    → ((at c : ℕ) → IsSourceIn at (f at) v u → HasLeaf known u ⊎ Found (not (is_par kind)) at (g c) (a c) u v)
    → IsSourceIn first (in_block_from kind first m f) v u → HasLeaf known u ⊎ Found (joins_series kind) first (in_block kind c (λ k. copy_shapes kind (g k))) (in_block kind c a) u v
block_sourced seq_block m known first c u v f g a fl gl al one h = one first c h
block_sourced par_block m known first c u v f g a fl gl al one h = one first c h
block_sourced (for_loop n) m known first c u v f g a fl gl al one h =
    copies_sourced (word_number n) m true known first u v (λ k. f (first + k * m)) g a (λ k. fl (first + k * m)) gl al (λ k. one (first + k * m)) h
block_sourced (pfor_loop n) m known first c u v f g a fl gl al one h =
    copies_sourced (word_number n) m false known first u v (λ k. f (first + k * m)) g a (λ k. fl (first + k * m)) gl al (λ k. one (first + k * m)) h

-- joined, in a list of either kind, and with more behind
joined_found : (kind : BlockKind) (series : Bool) (known : List Known) (first : ℕ) (xs ys : List Tree) (ws zs : List Act) (u v : ℕ)
    → HasLeaf known u ⊎ Found (joins_series kind) first xs ws u v → HasLeaf known u ⊎ Found series first (join_list (join_in kind) xs ++ ys) (ws ++ zs) u v
joined_found kind series known first xs ys ws zs u v (inl k) = inl k
joined_found kind series known first xs ys ws zs u v (inr f) =
    inr (found_left series first (join_list (join_in kind) xs) ys ws zs u v
    (subst (λ join. IsBeforeIn series first (join_list join xs) u v) (join_is kind) (joined_list (joins_series kind) series xs first u v f.0), f.1))

-- A source was known at first, or is a call before the leaf.
sourced : (items : Items) (series : Bool) (known : List Known) (first c u v : ℕ) → AreFlat items → IsSourceIn first (sources_in series known first items) v u
    → HasLeaf known u ⊎ Found series first (shapes_in c items) (acts_in c items) u v
sourced nothing series known first c u v are h = elim h [ ]
sourced (leaf_then l more) series known first c u v are (inl h) = inl (used_known known (name_used l) u h.1)
sourced (leaf_then l more) series known first c u v are (inr h) =
    let next = known_next series (known_by first l) known in
    let range = source_range (first + 1) (sources_in series next (first + 1) more) v u h in
    let high = range.1 in
    step series (known_by first l) known first (first + 1) (leaf ∷ []) (shapes_in c more) (act_of c l ∷ []) (acts_in c more) u v (omega arith) (omega arith)
    (λ k. given l first c u are.0 k) range.0 (omega (arith, high, sources_count more series next (first + 1), shapes_count more c))
    (sourced more series next (first + 1) c u v are.1 h)
sourced (block_then kind body more) series known first c u v are h =
    let m = count body in
    let at = first + copies_of kind * m in
    let inner = not (is_par kind) in
    let new = if is_loop kind then [] else known_behind first body in
    let next = known_next series new known in
    let f : ℕ → List (Option ℕ) = λ at. sources_in inner known at body in
    let g : ℕ → List Tree = λ k. shapes_in k body in
    let a : ℕ → List Act = λ k. acts_in k body in
    let fl : (at : ℕ) → length (f at) ≡ m = λ at. sources_count body inner known at in
    let gl : (k : ℕ) → total (g k) ≡ m = λ k. shapes_count body k in
    let al : (k : ℕ) → length (a k) ≡ m = λ k. acts_count body k in
    let xs = in_block kind c (λ k. copy_shapes kind (g k)) in
    let ws = in_block kind c a in
    elim (source_split first at (in_block_from kind first m f) (sources_in series next at more) v u (omega (arith, block_length_from kind first m f fl)) h) [
      | inl l ↦ joined_found kind series known first xs (shapes_in c more) ws (acts_in c more) u v
          (block_sourced kind m known first c u v f g a fl gl al (λ from d h. sourced body inner known from d u v are.0 h) l)
      | inr r ↦
          let range = source_range at (sources_in series next at more) v u r in
          let high = range.1 in
          step series new known first at (join_list (join_in kind) xs) (shapes_in c more) ws (acts_in c more) u v
          (omega (arith, joined_total kind xs, block_total kind c m (λ k. copy_shapes kind (g k)) (λ k. copy_total kind (g k) ∙ gl k))) (omega (arith, block_length kind c m a al))
          (λ k. block_calls kind c first u (known_behind first body) a (λ h. known_calls body first c u are.0 h) k) range.0
          (omega (arith, high, sources_count more series next at, shapes_count more c))
          (sourced more series next at c u v are.1 r)
    ]

-- by number
get_source : (ss : List (Option ℕ)) (first i u : ℕ) → slice_get ss i ≡ Some (Some u) → IsSourceIn first ss (first + i) u
get_source [] first i u e = cc
get_source (s ∷ ss) first zero u e = inl (omega arith, cc)
get_source (s ∷ ss) first (suc i) u e =
    let same : first + 1 + i ≡ first + suc i = omega arith in inr (subst (λ v. IsSourceIn (first + 1) ss v u) same (get_source ss (first + 1) i u e))

get_act : (P : Act → Type 0) (acts : List Act) (first i : ℕ) → ActIn P first acts (first + i) → (a : Act) × ((slice_get acts i ≡ Some a) × P a)
get_act P [] first i h = elim h [ ]
get_act P (a ∷ acts) first zero (inl h) = (a, (refl, h.1))
get_act P (a ∷ acts) first zero (inr h) = let low = (act_range P (first + 1) acts (first + 0) h).0 in absurd (omega (arith, low))
get_act P (a ∷ acts) first (suc i) (inl h) = let e = h.0 in absurd (omega (arith, e))
get_act P (a ∷ acts) first (suc i) (inr h) =
    let same : first + suc i ≡ first + 1 + i = omega arith in get_act P acts (first + 1) i (subst (λ u. ActIn P (first + 1) acts u) same h)

get_call : (acts : List Act) (i : ℕ) → IsCallIn 0 acts i → (op : Op) × (slice_get acts i ≡ Some (Call op))
get_call acts i h =
    let number : i ≡ 0 + i = omega arith in
    let r = get_act Calls acts 0 i (subst (λ n. ActIn Calls 0 acts n) number h) in
    (r.1.1.0, r.1.0 ∙ ap (λ a. Some a) r.1.1.1)

get_taking : (acts : List Act) (i : ℕ) → ActIn Takes 0 acts i → (op : Op) × ((slice_get acts i ≡ Some (Call op)) × ((has_argument op ≡ true) × (argument_of op ≡ 0)))
get_taking acts i h =
    let number : i ≡ 0 + i = omega arith in
    let r = get_act Takes acts 0 i (subst (λ n. ActIn Takes 0 acts n) number h) in
    (r.1.1.0, (r.1.0 ∙ ap (λ a. Some a) r.1.1.1.0, r.1.1.1.1))

before_of : (shape : Option Tree) (u v : ℕ) → IsBeforeOpt 0 shape u v → IsBefore shape u v × (u < v)
before_of None u v h = elim h [ ]
before_of (Some tree) u v h = (h, (before_is_smaller tree 0 u v h).1.0)

-- A leaf that has a source calls with an argument that stands as 0, and the source is a call before it.
record IsTaken (shape : Option Tree) (acts : List Act) (v u : ℕ) : Type 0 where
  taking : (op : Op) × ((slice_get acts v ≡ Some (Call op)) × ((has_argument op ≡ true) × (argument_of op ≡ 0)))
  called : IsCallLeaf acts u
  before : IsBefore shape u v

source_taken : (items : Items) (v u : ℕ) → AreFlat items → slice_get (sources_in true [] 0 items) v ≡ Some (Some u) → IsTaken (join_of seq (shapes_in 0 items)) (acts_in 0 items) v u
source_taken items v u are e =
    let number : 0 + v ≡ v = omega arith in
    let here : IsSourceIn 0 (sources_in true [] 0 items) v u = subst (λ n. IsSourceIn 0 (sources_in true [] 0 items) n u) number (get_source (sources_in true [] 0 items) 0 v u e) in
    elim (sourced items true [] 0 0 u v are here) [
      | inl k ↦ elim k [ ]
      | inr f ↦ record {
        taking = get_taking (acts_in 0 items) v (taken items true [] 0 0 u v are here);
        called = get_call (acts_in 0 items) u f.1;
        before = (before_of (join_of seq (shapes_in 0 items)) u v (joined_of true (shapes_in 0 items) 0 u v f.0)).0;
      }
    ]

-- Each source of a leaf is one that the leaf may have.
pub sources_are_before : (items : Items) (v u : ℕ) → AreFlat items → slice_get (sources_in true [] 0 items) v ≡ Some (Some u) → IsSource (join_of seq (shapes_in 0 items)) (acts_in 0 items) v u
sources_are_before items v u are e =
    let is = source_taken items v u are e in
    record { act = Call is.taking.0; is = is.taking.1.0; from = Call is.called.0; stands = is.called.1; takes = is.taking.1.1; before = is.before }

-- Leaves take replies alone.
pub items_take_replies : (items : Items) → grammar.AreItems false items → TakeReplies (acts_in 0 items) (sources_in true [] 0 items)
items_take_replies items fits v u e =
    let is = source_taken items v u (flat_items false items fits) e in
    ((is.taking.0, is.taking.1.0), is.called)

pub items_have_sources : (items : Items) → grammar.AreItems false items → AreSources (join_of seq (shapes_in 0 items)) (acts_in 0 items) (sources_in true [] 0 items)
items_have_sources items fits = record {
  as_many = sources_count items true [] 0 ∙ sym (acts_count items 0);
  each = λ leaf source e. sources_are_before items leaf source (flat_items false items fits) e;
}
