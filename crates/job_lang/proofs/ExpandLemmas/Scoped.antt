-- The leaves that are added, item by item and copy by copy, and their sources by the meaning.
use Rattle.std.proofs.Common.{◌≡◌, ℕ, ◌+◌, ◌*◌, Bool, true, false, not, List, [], ◌∷◌, ◌++◌, Option, Some, None, refl, sym, ap, ◌∙◌, arith, append_assoc, append-nil, subst}
use Rattle.std.specs.Prelude.{if◌then◌else◌, option_and_then}
use Rattle.job_names.specs.declared.name.Name.{Name}
use Rattle.job_names.specs.declared.kind.Kind.{Kind}
use Rattle.job_names.specs.declared.scopes.Let.{Let}
use Rattle.job_names.specs.Names.{same_name}
use Rattle.job_names.specs.Scopes.{Scope, job, inside, is_par, or_else, last_of, lets_shown, with_lets}
use Rattle.job_names.proofs.ScopeLemmas.{last_append, with_nothing}
use Rattle.job_syntax.specs.Blocks.{copies_of, name_kind}
use Rattle.job_syntax.specs.Grammar.{Items, nothing, leaf_then, block_then, BlockKind, seq_block, par_block, for_loop, pfor_loop, ◌then◌, Leaf, work, call, bound, is_loop}
use Rattle.job_syntax.specs.Grammar as grammar
use Rattle.job_syntax.specs.Arguments.{name_used}
use Rattle.job_lang.specs.Counts.{count}
use Rattle.job_lang.specs.Meaning.{in_block_from, Known, leaf_known, source_of, known_by, known_behind, known_next, sources_in}
use Rattle.job_lang.specs.Code.Scoped.{lets_at, lets_behind, scoped_source, scoped_sources}

-- items one after another

with_two : (scope : Scope) (xs ys : List Let) → with_lets (with_lets scope xs) ys ≡ with_lets scope (xs ++ ys)
with_two (job lets) xs ys = ap job (append_assoc lets xs ys)
with_two (inside outer kind lets) xs ys = ap (inside outer kind) (append_assoc lets xs ys)

pub lets_then : (first at : ℕ) (a b : Items) → at ≡ first + count a → lets_behind first (a then b) ≡ lets_behind first a ++ lets_behind at b
lets_then first at nothing b e = let same : first ≡ at = omega (arith, e) in ap (λ n. lets_behind n b) same
lets_then first at (leaf_then l a) b e =
    ap (λ lets. lets_at first l ++ lets) (lets_then (first + 1) at a b (omega (arith, e))) ∙ sym (append_assoc (lets_at first l) (lets_behind (first + 1) a) (lets_behind at b))
lets_then first at (block_then kind body a) b e =
    let next = first + copies_of kind * count body in
    let given = if is_loop kind then [] else lets_behind first body in
    ap (λ lets. given ++ lets) (lets_then next at a b (omega (arith, e))) ∙ sym (append_assoc given (lets_behind next a) (lets_behind at b))

pub sources_then : (scope : Scope) (first at : ℕ) (a b : Items) → at ≡ first + count a
    → scoped_sources scope first (a then b) ≡ scoped_sources scope first a ++ scoped_sources (with_lets scope (lets_behind first a)) at b
sources_then scope first at nothing b e =
    let same : first ≡ at = omega (arith, e) in
    ap (λ n. scoped_sources scope n b) same ∙ ap (λ s. scoped_sources s at b) (sym (with_nothing scope))
sources_then scope first at (leaf_then l a) b e =
    ap (λ rest. scoped_source scope l ∷ rest)
    (sources_then (with_lets scope (lets_at first l)) (first + 1) at a b (omega (arith, e))
    ∙ ap (λ s. scoped_sources (with_lets scope (lets_at first l)) (first + 1) a ++ scoped_sources s at b) (with_two scope (lets_at first l) (lets_behind (first + 1) a)))
sources_then scope first at (block_then kind body a) b e =
    let next = first + copies_of kind * count body in
    let new = if is_loop kind then [] else lets_behind first body in
    let now = with_lets scope new in
    let front = in_block_from kind first (count body) (λ from. scoped_sources (inside scope (name_kind kind) []) from body) in
    ap (λ rest. front ++ rest)
    (sources_then now next at a b (omega (arith, e)) ∙ ap (λ s. scoped_sources now next a ++ scoped_sources s at b) (with_two scope new (lets_behind next a)))
    ∙ sym (append_assoc front (scoped_sources now next a) (scoped_sources (with_lets scope (new ++ lets_behind next a)) at b))

pub scope_behind_then : (scope : Scope) (first at : ℕ) (a b : Items) → at ≡ first + count a
    → with_lets (with_lets scope (lets_behind first a)) (lets_behind at b) ≡ with_lets scope (lets_behind first (a then b))
scope_behind_then scope first at a b e = with_two scope (lets_behind first a) (lets_behind at b) ∙ ap (with_lets scope) (sym (lets_then first at a b e))

-- what is known is what the scope shows, name by name

abbrev pub Agrees : List Known → List Let → Type 0
Agrees known lets = (name : Name) → leaf_known known name ≡ last_of name lets

known_first : (b : Bool) (here : ℕ) (rest other : Option ℕ) → (if b then Some here else or_else rest other) ≡ or_else (if b then Some here else rest) other
known_first true here rest other = refl
known_first false here rest other = refl

known_append : (new known : List Known) (name : Name) → leaf_known (new ++ known) name ≡ or_else (leaf_known new name) (leaf_known known name)
known_append [] known name = refl
known_append (k ∷ new) known name =
    ap (λ r. if same_name k.name name then Some k.leaf else r) (known_append new known name) ∙ known_first (same_name k.name name) k.leaf (leaf_known new name) (leaf_known known name)

agrees_both : (new known : List Known) (old lets : List Let) → Agrees new lets → Agrees known old → Agrees (new ++ known) (old ++ lets)
agrees_both new known old lets e f name =
    known_append new known name ∙ ap (λ r. or_else r (leaf_known known name)) (e name) ∙ ap (or_else (last_of name lets)) (f name) ∙ sym (last_append name old lets)

leaf_agrees : (l : Leaf) (first : ℕ) → Agrees (known_by first l) (lets_at first l)
leaf_agrees (work argument) first name = refl
leaf_agrees (call verb object argument) first name = refl
leaf_agrees (bound given l) first name = refl

kept_agrees : (loop : Bool) (known : List Known) (lets : List Let) → Agrees known lets → Agrees (if loop then [] else known) (if loop then [] else lets)
kept_agrees true known lets e name = refl
kept_agrees false known lets e name = e name

behind_agrees : (items : Items) (first : ℕ) → Agrees (known_behind first items) (lets_behind first items)
behind_agrees nothing first = λ name. refl
behind_agrees (leaf_then l more) first =
    agrees_both (known_behind (first + 1) more) (known_by first l) (lets_at first l) (lets_behind (first + 1) more) (behind_agrees more (first + 1)) (leaf_agrees l first)
behind_agrees (block_then kind body more) first =
    let next = first + copies_of kind * count body in
    agrees_both (known_behind next more) (if is_loop kind then [] else known_behind first body) (if is_loop kind then [] else lets_behind first body) (lets_behind next more)
    (behind_agrees more next) (kept_agrees (is_loop kind) (known_behind first body) (lets_behind first body) (behind_agrees body first))

-- whether the items in a scope run in series
abbrev pub in_series : Scope → Bool
in_series (job lets) = true
in_series (inside outer kind lets) = not (is_par kind)

next_in : (par : Bool) (outer lets more : List Let) (new known : List Known) → Agrees new more → Agrees known (outer ++ (if par then [] else lets)) → Agrees (known_next (not par) new known) (outer ++ (if par then [] else lets ++ more))
next_in true outer lets more new known e f = f
next_in false outer lets more new known e f =
    subst (λ l. Agrees (new ++ known) l) (append_assoc outer lets more) (agrees_both new known (outer ++ lets) more e f)

next_agrees : (scope : Scope) (more : List Let) (new known : List Known) → Agrees new more → Agrees known (lets_shown scope) → Agrees (known_next (in_series scope) new known) (lets_shown (with_lets scope more))
next_agrees (job lets) more new known e f = agrees_both new known lets more e f
next_agrees (inside outer kind lets) more new known e f = next_in (is_par kind) (lets_shown outer) lets more new known e f

opened : (par : Bool) (lets : List Let) → lets ++ (if par then [] else []) ≡ lets
opened true lets = append-nil lets
opened false lets = append-nil lets

inner_agrees : (scope : Scope) (kind : Kind) (known : List Known) → Agrees known (lets_shown scope) → Agrees known (lets_shown (inside scope kind []))
inner_agrees scope kind known e name = e name ∙ ap (last_of name) (sym (opened (is_par kind) (lets_shown scope)))

with_series : (scope : Scope) (more : List Let) → in_series (with_lets scope more) ≡ in_series scope
with_series (job lets) more = refl
with_series (inside outer kind lets) more = refl

source_agrees : (scope : Scope) (known : List Known) (used : Option Name) → Agrees known (lets_shown scope)
    → option_and_then (λ name. last_of name (lets_shown scope)) used ≡ option_and_then (leaf_known known) used
source_agrees scope known None e = refl
source_agrees scope known (Some name) e = sym (e name)

-- the items of a block run in series, or in parallel, as its scope says
inner_series : (scope : Scope) (kind : BlockKind) → in_series (inside scope (name_kind kind) []) ≡ not (grammar.is_par kind)
inner_series scope seq_block = refl
inner_series scope par_block = refl
inner_series scope (for_loop n) = refl
inner_series scope (pfor_loop n) = refl

-- the sources in a scope are those of the meaning
pub scoped_is : (items : Items) (series : Bool) (known : List Known) (scope : Scope) (first : ℕ) → in_series scope ≡ series → Agrees known (lets_shown scope) → scoped_sources scope first items ≡ sources_in series known first items
scoped_is nothing series known scope first is e = refl
scoped_is (leaf_then l more) series known scope first is e =
    ap (λ s. s ∷ scoped_sources (with_lets scope (lets_at first l)) (first + 1) more) (source_agrees scope known (name_used l) e)
    ∙ ap (λ rest. source_of known l ∷ rest)
    (scoped_is more series (known_next series (known_by first l) known) (with_lets scope (lets_at first l)) (first + 1) (with_series scope (lets_at first l) ∙ is)
    (subst (λ b. Agrees (known_next b (known_by first l) known) (lets_shown (with_lets scope (lets_at first l)))) is (next_agrees scope (lets_at first l) (known_by first l) known (leaf_agrees l first) e)))
scoped_is (block_then kind body more) series known scope first is e =
    let next = first + copies_of kind * count body in
    let new = if is_loop kind then [] else known_behind first body in
    let lets = if is_loop kind then [] else lets_behind first body in
    let now = with_lets scope lets in
    let inner = inside scope (name_kind kind) [] in
    let given = kept_agrees (is_loop kind) (known_behind first body) (lets_behind first body) (behind_agrees body first) in
    let rest = scoped_is more series (known_next series new known) now next (with_series scope lets ∙ is)
    (subst (λ b. Agrees (known_next b new known) (lets_shown now)) is (next_agrees scope lets new known given e)) in
    λ i. in_block_from kind first (count body) (λ from. scoped_is body (not (grammar.is_par kind)) known inner from (inner_series scope kind) (inner_agrees scope (name_kind kind) known e) i) ++ rest i

pub job_sources : (items : Items) → scoped_sources (job []) 0 items ≡ sources_in true [] 0 items
job_sources items = scoped_is items true [] (job []) 0 refl (λ name. refl)
