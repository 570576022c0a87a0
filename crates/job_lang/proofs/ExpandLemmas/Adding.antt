-- What is added, item by item and copy by copy.
use Rattle.std.proofs.Common.{◌≡◌, ℕ, suc, ◌+◌, ◌*◌, ◌<◌, ◌≤◌, List, [], ◌++◌, length, take, drop, get_or, true, Result, Ok, Err, Vec, Global, Some, refl, sym, ap, ◌∙◌, arith, append_assoc, append-nil, length-append, subst}
use Rattle.job_names.specs.declared.name.Name.{Name}
use Rattle.job_names.specs.declared.kind.Kind.TheVariants as kind
use Rattle.job_names.specs.Scopes.{Scope, job, inside, with_lets, closed}
use Rattle.job_names.specs.Code.Kept as names
use Rattle.job_names.proofs.ScopeLemmas.{with_nothing}
use Rattle.job_syntax.specs.declared.lexer.word.Word.TheVariants.{Number}
use Rattle.job_syntax.specs.declared.item.Item.{Item, Leaf as ItemLeaf, Let as ItemLet, Block}
use Rattle.job_syntax.specs.declared.item.Leaf.{Leaf as CodeLeaf}
use Rattle.job_syntax.specs.declared.item.BlockKind.{BlockKind as CodeBlockKind}
use Rattle.job_syntax.specs.Blocks.{name_kind}
use Rattle.job_syntax.specs.Grammar.{Items, nothing, leaf_then, block_then, BlockKind, for_loop, pfor_loop, ◌then◌, bound}
use Rattle.job_syntax.specs.Views.{items_of, item_of, leaf_of, block_kind_of}
use Rattle.job_syntax.proofs.ParserLemmas.Levels.{items_of_more, items_of_parts, item_of_leaf, item_of_let, item_of_block}
use Rattle.job_lang.specs.declared.expand.leaves.Leaves.{Leaves}
use Rattle.job_lang.specs.Counts.{count}
use Rattle.job_lang.specs.Meaning.{acts_in, sources_in, object_of, objects_in, each_copy}
use Rattle.job_lang.specs.Code.Numbered.{AreListed, NamesBehind}
use Rattle.job_lang.specs.Code.Scoped.{lets_behind, scoped_sources, AreKept, Adds, AddsCopies}
use Rattle.job_lang.proofs.ExpandLemmas.Copies.{acts_then, each_leaf_then}
use Rattle.job_lang.proofs.ExpandLemmas.Blocks.{each_length}
use Rattle.job_lang.proofs.ExpandLemmas.Leaves.{acts_count, each_leaf_count}
use Rattle.job_lang.proofs.ExpandLemmas.Listing.{behind_both}
use Rattle.job_lang.proofs.ExpandLemmas.Scoped.{sources_then, scope_behind_then, job_sources}
use Rattle.job_lang.proofs.LimitLemmas.Cuts.{count_then, count_more}
use Rattle.std.specs.Prelude.{OnOk}
use Rattle.std.proofs.Math.Nat.{mul-le-mul_right}
use Rattle.sp_order.specs.Precedence.{Tree}

-- as many acts are added as the items count
pub added_count : (c : ℕ) (a : Items) (old new : Leaves) → Adds c a old new → length new.acts.items ≡ length old.acts.items + count a
added_count c a old new h = ap length h.acts ∙ length-append old.acts.items (acts_in c a) ∙ ap (λ n. length old.acts.items + n) (acts_count a c)

pub adds_then : (c : ℕ) (a b : Items) (old now new : Leaves) → Adds c a old now → Adds c b now new → Adds c (a then b) old new
adds_then c a b old now new f g =
    let first = length old.acts.items in
    let at = length now.acts.items in
    let e : at ≡ first + count a = added_count c a old now f in
    let scope = names.view old.scopes in
    record {
      acts = g.acts ∙ ap (λ acts. acts ++ acts_in c b) f.acts ∙ append_assoc old.acts.items (acts_in c a) (acts_in c b) ∙ ap (λ acts. old.acts.items ++ acts) (sym (acts_then c a b));
      sources = g.sources ∙ ap (λ s. now.sources.items ++ scoped_sources s at b) f.scope
          ∙ ap (λ all. all ++ scoped_sources (with_lets scope (lets_behind first a)) at b) f.sources
          ∙ append_assoc old.sources.items (scoped_sources scope first a) (scoped_sources (with_lets scope (lets_behind first a)) at b)
          ∙ ap (λ all. old.sources.items ++ all) (sym (sources_then scope first at a b e));
      objects = subst (NamesBehind first old.objects new.objects) (sym (each_leaf_then object_of a b))
          (behind_both first at old.objects now.objects new.objects (objects_in a) (objects_in b) (omega (arith, e, each_leaf_count object_of a)) f.objects g.objects);
      scope = g.scope ∙ ap (λ s. with_lets s (lets_behind at b)) f.scope ∙ scope_behind_then scope first at a b e;
      kept = g.kept;
    }

-- one more item
pub adds_more : (c : ℕ) (xs : List Item) (i : ℕ) (x : Item) (old now new : Leaves) → i < length xs → x ≡ get_or xs i x → Adds c (items_of (take i xs)) old now → Adds c (item_of x) now new
    → Adds c (items_of (take (i + 1) xs)) old new
adds_more c xs i x old now new within is f g =
    subst (λ items. Adds c items old new) (sym (items_of_more xs i x within is)) (adds_then c (items_of (take i xs)) (item_of x) old now new f g)

pub adds_leaf : (c : ℕ) (leaf : CodeLeaf) (old new : Leaves) → Adds c (leaf_then (leaf_of leaf) nothing) old new → Adds c (item_of (ItemLeaf leaf)) old new
adds_leaf c leaf old new h = subst (λ items. Adds c items old new) (sym (item_of_leaf leaf)) h

pub adds_let : (c : ℕ) (name : Name) (call : CodeLeaf) (old new : Leaves) → Adds c (leaf_then (bound name (leaf_of call)) nothing) old new → Adds c (item_of (ItemLet name call)) old new
adds_let c name call old new h = subst (λ items. Adds c items old new) (sym (item_of_let name call)) h

pub adds_block : (c : ℕ) (kind : CodeBlockKind) (body : Vec Item Global) (old new : Leaves) → Adds c (block_then (block_kind_of kind) (items_of body.items) nothing) old new → Adds c (item_of (Block kind body)) old new
adds_block c kind body old new h = subst (λ items. Adds c items old new) (sym (item_of_block kind body)) h

-- the leaves once a block is opened, filled and closed
pub record InBlock (block : BlockKind) (c : ℕ) (body : Items) (old opened filled new : Leaves) : Type 0 where
  pub opened_acts : opened.acts ≡ old.acts
  pub opened_sources : opened.sources ≡ old.sources
  pub opened_objects : opened.objects ≡ old.objects
  pub opened_scope : names.view opened.scopes ≡ inside (names.view old.scopes) (name_kind block) []
  pub fills : Adds c body opened filled
  pub new_acts : new.acts ≡ filled.acts
  pub new_sources : new.sources ≡ filled.sources
  pub new_objects : new.objects ≡ filled.objects
  pub new_scope : names.view new.scopes ≡ closed (names.view filled.scopes)
  pub kept : AreKept new

module _ (block : BlockKind) (c : ℕ) (body : Items) (old opened filled new : Leaves) (h : InBlock block c body old opened filled new) where
  first_is : length opened.acts.items ≡ length old.acts.items
  first_is = ap (λ v. length v.items) h.opened_acts

  acts_are : new.acts.items ≡ old.acts.items ++ acts_in c body
  acts_are = ap (λ v. v.items) h.new_acts ∙ h.fills.acts ∙ ap (λ v. v.items ++ acts_in c body) h.opened_acts

  sources_are : new.sources.items ≡ old.sources.items ++ scoped_sources (inside (names.view old.scopes) (name_kind block) []) (length old.acts.items) body
  sources_are =
      ap (λ v. v.items) h.new_sources ∙ h.fills.sources
      ∙ ap (λ v. v.items ++ scoped_sources (names.view opened.scopes) (length opened.acts.items) body) h.opened_sources
      ∙ ap (λ s. old.sources.items ++ scoped_sources s (length opened.acts.items) body) h.opened_scope
      ∙ ap (λ n. old.sources.items ++ scoped_sources (inside (names.view old.scopes) (name_kind block) []) n body) first_is

  objects_are : NamesBehind (length old.acts.items) old.objects new.objects (objects_in body)
  objects_are =
      subst (λ o. NamesBehind (length old.acts.items) old.objects o (objects_in body)) (sym h.new_objects)
      (subst (λ o. NamesBehind (length old.acts.items) o filled.objects (objects_in body)) h.opened_objects
      (subst (λ n. NamesBehind n opened.objects filled.objects (objects_in body)) first_is h.fills.objects))

  scope_is : names.view new.scopes ≡ closed (inside (names.view old.scopes) (name_kind block) (lets_behind (length old.acts.items) body))
  scope_is =
      h.new_scope ∙ ap closed (h.fills.scope ∙ ap (λ s. with_lets s (lets_behind (length opened.acts.items) body)) h.opened_scope
      ∙ ap (λ n. inside (names.view old.scopes) (name_kind block) (lets_behind n body)) first_is)

pub adds_for : (c : ℕ) (n : BlockKind) (copies : ℕ) (body : Items) (old new : Leaves) → AddsCopies copies body old new
    → (acts_in c (block_then n body nothing) ≡ each_copy copies (λ k. acts_in k body) ++ [])
    → ((scope : Scope) (first : ℕ) → scoped_sources scope first (block_then n body nothing) ≡ each_copy copies (λ k. scoped_sources (inside scope kind.Loop []) (first + k * count body) body) ++ [])
    → objects_in (block_then n body nothing) ≡ each_copy copies (λ k. objects_in body) ++ []
    → ((first : ℕ) → lets_behind first (block_then n body nothing) ≡ [])
    → Adds c (block_then n body nothing) old new
adds_for c n copies body old new h acts sources objects lets =
    let scope = names.view old.scopes in
    let first = length old.acts.items in
    record {
      acts = h.acts ∙ ap (λ all. old.acts.items ++ all) (sym (acts ∙ append-nil (each_copy copies (λ k. acts_in k body))));
      sources = h.sources ∙ ap (λ all. old.sources.items ++ all) (sym (sources scope first ∙ append-nil (each_copy copies (λ k. scoped_sources (inside scope kind.Loop []) (first + k * count body) body))));
      objects = subst (NamesBehind first old.objects new.objects) (sym (objects ∙ append-nil (each_copy copies (λ k. objects_in body)))) h.objects;
      scope = h.scope ∙ sym (with_nothing scope) ∙ ap (with_lets scope) (sym (lets first));
      kept = h.kept;
    }

pub adds_for_loop : (c n : ℕ) (body : Items) (old new : Leaves) → AddsCopies n body old new → Adds c (block_then (for_loop (Number (Some n))) body nothing) old new
adds_for_loop c n body old new h = adds_for c (for_loop (Number (Some n))) n body old new h refl (λ scope first. refl) refl (λ first. refl)

pub adds_pfor_loop : (c n : ℕ) (body : Items) (old new : Leaves) → AddsCopies n body old new → Adds c (block_then (pfor_loop (Number (Some n))) body nothing) old new
adds_pfor_loop c n body old new h = adds_for c (pfor_loop (Number (Some n))) n body old new h refl (λ scope first. refl) refl (λ first. refl)

pub copies_count : (n : ℕ) (body : Items) (old new : Leaves) → AddsCopies n body old new → length new.acts.items ≡ length old.acts.items + n * count body
copies_count n body old new h = ap length h.acts ∙ length-append old.acts.items (each_copy n (λ k. acts_in k body)) ∙ ap (λ m. length old.acts.items + m) (each_length n (count body) (λ k. acts_in k body) (λ k. acts_count body k))

one_more_copy_at : (block : BlockKind) (n : ℕ) (body : Items) (old now opened filled new : Leaves) → name_kind block ≡ kind.Loop → AddsCopies n body old now → InBlock block n body now opened filled new → AddsCopies (suc n) body old new
one_more_copy_at block n body old now opened filled new loop f h =
    let first = length old.acts.items in
    let scope = names.view old.scopes in
    let at : length now.acts.items ≡ first + n * count body = copies_count n body old now f in
    let copy = acts_in n body in
    let sourced = scoped_sources (inside scope kind.Loop []) (first + n * count body) body in
    record {
      acts = acts_are block n body now opened filled new h ∙ ap (λ all. all ++ copy) f.acts ∙ append_assoc old.acts.items (each_copy n (λ k. acts_in k body)) copy;
      sources = sources_are block n body now opened filled new h
          ∙ ap (λ s. now.sources.items ++ scoped_sources (inside s (name_kind block) []) (length now.acts.items) body) f.scope
          ∙ ap (λ k. now.sources.items ++ scoped_sources (inside scope k []) (length now.acts.items) body) loop
          ∙ ap (λ m. now.sources.items ++ scoped_sources (inside scope kind.Loop []) m body) at
          ∙ ap (λ all. all ++ sourced) f.sources
          ∙ append_assoc old.sources.items (each_copy n (λ k. scoped_sources (inside scope kind.Loop []) (first + k * count body) body)) sourced;
      objects = behind_both first (length now.acts.items) old.objects now.objects new.objects (each_copy n (λ k. objects_in body)) (objects_in body)
          (omega (arith, at, each_length n (count body) (λ k. objects_in body) (λ k. each_leaf_count object_of body))) f.objects (objects_are block n body now opened filled new h);
      scope = scope_is block n body now opened filled new h
          ∙ ap (λ k. closed (inside (names.view now.scopes) k (lets_behind (length now.acts.items) body))) loop
          ∙ with_nothing (names.view now.scopes) ∙ f.scope;
      kept = h.kept;
    }

pub one_more_copy : (block : BlockKind) (n : ℕ) (body : Items) (old now opened filled new : Leaves) → name_kind block ≡ kind.Loop → AddsCopies n body old now → InBlock block n body now opened filled new → AddsCopies (n + 1) body old new
one_more_copy block n body old now opened filled new loop f h =
    let e : suc n ≡ n + 1 = omega arith in subst (λ m. AddsCopies m body old new) e (one_more_copy_at block n body old now opened filled new loop f h)

-- there is room for an item, and for a copy
count_front : (xs : List Item) (i : ℕ) → count (items_of (take i xs)) ≤ count (items_of xs)
count_front xs i =
    let e = ap count (items_of_parts xs i) in
    let f = count_then (items_of (take i xs)) (items_of (drop i xs)) in
    omega (arith, e, f)

pub few_item : (c : ℕ) (xs : List Item) (i : ℕ) (x : Item) (old now : Leaves) → i < length xs → x ≡ get_or xs i x → Adds c (items_of (take i xs)) old now → length old.acts.items + count (items_of xs) ≤ 20000
    → length now.acts.items + count (item_of x) ≤ 20000
few_item c xs i x old now within is h few =
    let n = added_count c (items_of (take i xs)) old now h in
    let m = count_more xs i x within is in
    let l = count_front xs (i + 1) in
    omega (arith, n, m, l, few)

pub few_copy : (k n : ℕ) (body : Items) (old now opened : Leaves) → k < n → AddsCopies k body old now → opened.acts ≡ now.acts → length old.acts.items + n * count body ≤ 20000
    → length opened.acts.items + count body ≤ 20000
few_copy k n body old now opened below h same few =
    let e = copies_count k body old now h in
    let f = ap (λ v. length v.items) same in
    let next : k + 1 ≤ n = omega (arith, below) in
    let m : (k + 1) * count body ≤ n * count body = mul-le-mul_right (count body) next in
    omega (arith, e, f, m, few)

-- the leaves of a whole job
pub from_nothing : (items : Items) (old new : Leaves) → old.acts.items ≡ [] → old.sources.items ≡ [] → names.view old.scopes ≡ job [] → AreListed old.objects [] → Adds 0 items old new
    → (new.acts.items ≡ acts_in 0 items) × (new.sources.items ≡ sources_in true [] 0 items) × AreListed new.objects (objects_in items)
from_nothing items old new no_acts no_sources at_front none h = (
  h.acts ∙ ap (λ acts. acts ++ acts_in 0 items) no_acts,
  h.sources ∙ ap (λ all. all ++ scoped_sources (names.view old.scopes) (length old.acts.items) items) no_sources
      ∙ ap (λ s. scoped_sources s (length old.acts.items) items) at_front ∙ ap (λ acts. scoped_sources (job []) (length acts) items) no_acts ∙ job_sources items,
  h.objects [] (sym (ap length no_acts)) none,
)

pub on_ok : {X E : Type 0} (r : Result X E) (A B : Type 0) → (A → B) → OnOk r A → OnOk r B
on_ok (Ok x) A B f h = f h
on_ok (Err e) A B f h = tt

-- the shapes of the copies, with one more
pub copies_made : (n : ℕ) (f : ℕ → List Tree) (old now new : List Tree) → now ≡ old ++ each_copy n f → new ≡ now ++ f n → new ≡ old ++ each_copy (n + 1) f
copies_made n f old now new made more =
    let same : suc n ≡ n + 1 = omega arith in
    more ∙ ap (λ all. all ++ f n) made ∙ append_assoc old (each_copy n f) (f n) ∙ ap (λ m. old ++ each_copy m f) same
