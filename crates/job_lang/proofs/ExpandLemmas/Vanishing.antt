-- Items that make no leaf have no meaning: pruning them keeps the meaning of the rest.
use Rattle.std.proofs.Common.{arith, append-nil, ◌+◌, ◌*◌, ◌≡◌, ℕ, zero, suc, List, [], ◌∷◌, ◌++◌, Bool, true, false, refl, sym, ap, ◌∙◌, eqb-true}
use Rattle.std.specs.Prelude.{◌||◌, ◌==◌, not, if◌then◌else◌}
use Rattle.sp_order.specs.Precedence.{Tree, leaf as one_leaf}
use Rattle.job_syntax.specs.Grammar.{Items, nothing, leaf_then, block_then, BlockKind, seq_block, par_block, for_loop, pfor_loop, is_loop, is_par, Leaf}
use Rattle.job_syntax.specs.Blocks.{word_number, copies_of}
use Rattle.job_lang.specs.Counts.{count}
use Rattle.job_lang.specs.Meaning.{shapes_in, acts_in, act_of, each_copy, in_block, in_block_from, each_leaf, join_list, join_in, copy_shapes, Known, source_of, known_by, known_behind, known_next, sources_in}
use Rattle.job_lang.specs.Code.Ranges.{InEach, Fits}
use Rattle.job_lang.specs.Code.Pruning.{is_nothing, without_empty}

each_nothing : {X : Type 0} (n : ℕ) (f : ℕ → List X) → ((k : ℕ) → f k ≡ []) → each_copy n f ≡ []
each_nothing zero f h = refl
each_nothing (suc n) f h = ap (λ x. x ++ f n) (each_nothing n f h) ∙ h n

nothing_when : (body : Items) → (is_nothing body || false) ≡ true → body ≡ nothing
nothing_when nothing e = refl
nothing_when (leaf_then leaf more) e = absurd cc
nothing_when (block_then kind inside more) e = absurd cc

loop_gone : {X : Type 0} (n : ℕ) (body : Items) (f : Items → ℕ → List X) → ((k : ℕ) → f nothing k ≡ []) → (is_nothing body || n == 0) ≡ true → each_copy n (f body) ≡ []
loop_gone n nothing f none e = each_nothing n (f nothing) none
loop_gone n (leaf_then leaf more) f none e = ap (λ m. each_copy m (f (leaf_then leaf more))) (eqb-true n 0 e)
loop_gone n (block_then kind inside more) f none e = ap (λ m. each_copy m (f (block_then kind inside more))) (eqb-true n 0 e)

-- a block without copies or without items gives nothing
block_gone : {X : Type 0} (kind : BlockKind) (c : ℕ) (body : Items) (f : Items → ℕ → List X) → ((k : ℕ) → f nothing k ≡ []) → (is_nothing body || copies_of kind == 0) ≡ true → in_block kind c (f body) ≡ []
block_gone seq_block c body f none e = ap (λ b. f b c) (nothing_when body e) ∙ none c
block_gone par_block c body f none e = ap (λ b. f b c) (nothing_when body e) ∙ none c
block_gone (for_loop n) c body f none e = loop_gone (word_number n) body f none e
block_gone (pfor_loop n) c body f none e = loop_gone (word_number n) body f none e

block_gone_from : {X : Type 0} (kind : BlockKind) (first size : ℕ) (body : Items) (f : Items → ℕ → List X) → ((at : ℕ) → f nothing at ≡ []) → (is_nothing body || copies_of kind == 0) ≡ true → in_block_from kind first size (f body) ≡ []
block_gone_from seq_block first size body f none e = ap (λ b. f b first) (nothing_when body e) ∙ none first
block_gone_from par_block first size body f none e = ap (λ b. f b first) (nothing_when body e) ∙ none first
block_gone_from (for_loop n) first size body f none e = loop_gone (word_number n) body (λ b k. f b (first + k * size)) (λ k. none (first + k * size)) e
block_gone_from (pfor_loop n) first size body f none e = loop_gone (word_number n) body (λ b k. f b (first + k * size)) (λ k. none (first + k * size)) e

-- the meaning of a block and more items is kept where the block is removed, if it contributes nothing
block_kept : {X : Type 0} (empty : Bool) (front : List X) (meaning : Items → List X) (kind : BlockKind) (body more : Items) → (empty ≡ true → front ≡ []) → meaning (block_then kind body more) ≡ front ++ meaning more
    → meaning (if empty then more else block_then kind body more) ≡ front ++ meaning more
block_kept true front meaning kind body more gone is = ap (λ x. x ++ meaning more) (sym (gone refl))
block_kept false front meaning kind body more gone is = is

no_shapes : (kind : BlockKind) → copy_shapes kind [] ≡ []
no_shapes seq_block = refl
no_shapes par_block = refl
no_shapes (for_loop n) = refl
no_shapes (pfor_loop n) = refl

pub same_shapes : (items : Items) (c : ℕ) → shapes_in c (without_empty items) ≡ shapes_in c items
same_shapes nothing c = refl
same_shapes (leaf_then leaf more) c = ap (λ x. one_leaf ∷ x) (same_shapes more c)
same_shapes (block_then kind body more) c =
    let kept : Items = without_empty body in
    let f : Items → ℕ → List Tree = λ b k. copy_shapes kind (shapes_in k b) in
    block_kept (is_nothing kept || copies_of kind == 0) (join_list (join_in kind) (in_block kind c (f kept))) (shapes_in c) kind kept (without_empty more)
    (λ e. ap (join_list (join_in kind)) (block_gone kind c kept f (λ k. no_shapes kind) e)) refl
    ∙ (λ i. join_list (join_in kind) (in_block kind c (λ k. copy_shapes kind (same_shapes body k i))) ++ same_shapes more c i)

pub same_acts : (items : Items) (c : ℕ) → acts_in c (without_empty items) ≡ acts_in c items
same_acts nothing c = refl
same_acts (leaf_then leaf more) c = ap (λ x. act_of c leaf ∷ x) (same_acts more c)
same_acts (block_then kind body more) c =
    let kept : Items = without_empty body in
    block_kept (is_nothing kept || copies_of kind == 0) (in_block kind c (λ k. acts_in k kept)) (acts_in c) kind kept (without_empty more)
    (block_gone kind c kept (λ b k. acts_in k b) (λ k. refl)) refl
    ∙ (λ i. in_block kind c (λ k. same_acts body k i) ++ same_acts more c i)

pub same_each : {X : Type 0} (rule : Leaf → X) (items : Items) → each_leaf rule (without_empty items) ≡ each_leaf rule items
same_each rule nothing = refl
same_each rule (leaf_then leaf more) = ap (λ x. rule leaf ∷ x) (same_each rule more)
same_each rule (block_then kind body more) =
    let kept : Items = without_empty body in
    block_kept (is_nothing kept || copies_of kind == 0) (in_block kind 0 (λ k. each_leaf rule kept)) (each_leaf rule) kind kept (without_empty more)
    (block_gone kind 0 kept (λ b k. each_leaf rule b) (λ k. refl)) refl
    ∙ (λ i. in_block kind 0 (λ k. same_each rule body i) ++ same_each rule more i)

block_fits_kept : (empty : Bool) (c : ℕ) (kind : BlockKind) (body more : Items) → Fits c (block_then kind body more) → Fits c more → Fits c (if empty then more else block_then kind body more)
block_fits_kept true c kind body more all rest = rest
block_fits_kept false c kind body more all rest = all

each_kept : (kind : BlockKind) (c : ℕ) (P Q : ℕ → Type 0) → ((k : ℕ) → P k → Q k) → InEach kind c P → InEach kind c Q
each_kept seq_block c P Q keeps h = keeps c h
each_kept par_block c P Q keeps h = keeps c h
each_kept (for_loop n) c P Q keeps h = λ k below. keeps k (h k below)
each_kept (pfor_loop n) c P Q keeps h = λ k below. keeps k (h k below)

pub kept_fits : (items : Items) (c : ℕ) → Fits c items → Fits c (without_empty items)
kept_fits nothing c h = tt
kept_fits (leaf_then leaf more) c h = (h.0, kept_fits more c h.1)
kept_fits (block_then kind body more) c h =
    let rest = kept_fits more c h.1 in
    block_fits_kept (is_nothing (without_empty body) || copies_of kind == 0) c kind (without_empty body) (without_empty more)
    (each_kept kind c (λ k. Fits k body) (λ k. Fits k (without_empty body)) (λ k fits. kept_fits body k fits) h.0, rest) rest

-- the counts, what is known, and the sources stay too

count_gone : (empty : Bool) (kind : BlockKind) (kept body more : Items) → (empty ≡ true → copies_of kind * count kept ≡ 0) → count kept ≡ count body → (if empty then count more else copies_of kind * count kept + count more) ≡ copies_of kind * count body + count more
count_gone true kind kept body more gone same = let none = gone refl in let e = ap (λ n. copies_of kind * n) same in omega (arith, none, e)
count_gone false kind kept body more gone same = ap (λ n. copies_of kind * n + count more) same

count_if : (empty : Bool) (kind : BlockKind) (kept more : Items) → count (if empty then more else block_then kind kept more) ≡ (if empty then count more else copies_of kind * count kept + count more)
count_if true kind kept more = refl
count_if false kind kept more = refl

gone_when : (kind : BlockKind) (kept : Items) → (is_nothing kept || copies_of kind == 0) ≡ true → copies_of kind * count kept ≡ 0
gone_when kind nothing e = omega arith
gone_when kind (leaf_then l more) e = let z = eqb-true (copies_of kind) 0 e in ap (λ n. n * count (leaf_then l more)) z ∙ omega arith
gone_when kind (block_then other inside more) e = let z = eqb-true (copies_of kind) 0 e in ap (λ n. n * count (block_then other inside more)) z ∙ omega arith

pub same_count : (items : Items) → count (without_empty items) ≡ count items
same_count nothing = refl
same_count (leaf_then l more) = ap (λ n. 1 + n) (same_count more)
same_count (block_then kind body more) =
    let kept : Items = without_empty body in
    count_if (is_nothing kept || copies_of kind == 0) kind kept (without_empty more)
    ∙ count_gone (is_nothing kept || copies_of kind == 0) kind kept body (without_empty more) (gone_when kind kept) (same_count body)
    ∙ ap (λ n. copies_of kind * count body + n) (same_count more)

known_if : (empty : Bool) (first : ℕ) (kind : BlockKind) (kept body more : Items) → (empty ≡ true → copies_of kind * count kept ≡ 0) → (empty ≡ true → (if is_loop kind then [] else known_behind first kept) ≡ []) → count kept ≡ count body
    → known_behind first (if empty then more else block_then kind kept more) ≡ known_behind (first + copies_of kind * count body) more ++ (if is_loop kind then [] else known_behind first kept)
known_if true first kind kept body more gone none same =
    let z = gone refl in
    let e = ap (λ n. copies_of kind * n) same in
    let at : first ≡ first + copies_of kind * count body = omega (arith, z, e) in
    sym (append-nil (known_behind first more)) ∙ ap (λ n. known_behind n more ++ []) at ∙ ap (λ k. known_behind (first + copies_of kind * count body) more ++ k) (sym (none refl))
known_if false first kind kept body more gone none same =
    ap (λ n. known_behind (first + copies_of kind * n) more ++ (if is_loop kind then [] else known_behind first kept)) same

none_known : (first : ℕ) (kind : BlockKind) (kept : Items) → (is_nothing kept || copies_of kind == 0) ≡ true → (if is_loop kind then [] else known_behind first kept) ≡ []
none_known first seq_block kept e = ap (known_behind first) (nothing_when kept e)
none_known first par_block kept e = ap (known_behind first) (nothing_when kept e)
none_known first (for_loop n) kept e = refl
none_known first (pfor_loop n) kept e = refl

pub same_known : (items : Items) (first : ℕ) → known_behind first (without_empty items) ≡ known_behind first items
same_known nothing first = refl
same_known (leaf_then l more) first = ap (λ k. k ++ known_by first l) (same_known more (first + 1))
same_known (block_then kind body more) first =
    let kept : Items = without_empty body in
    let next = first + copies_of kind * count body in
    known_if (is_nothing kept || copies_of kind == 0) first kind kept body (without_empty more) (gone_when kind kept) (none_known first kind kept) (same_count body)
    ∙ ap (λ k. k ++ (if is_loop kind then [] else known_behind first kept)) (same_known more next)
    ∙ ap (λ k. known_behind next more ++ (if is_loop kind then [] else k)) (same_known body first)

nothing_new : (series : Bool) (known : List Known) → known_next series [] known ≡ known
nothing_new true known = refl
nothing_new false known = refl

-- the sources of a block and of more items, where the block is removed
sources_kept : (empty series : Bool) (known : List Known) (first : ℕ) (kind : BlockKind) (kept more : Items)
    → (empty ≡ true → in_block_from kind first (count kept) (λ at. sources_in (not (is_par kind)) known at kept) ≡ [])
    → (empty ≡ true → copies_of kind * count kept ≡ 0) → (empty ≡ true → (if is_loop kind then [] else known_behind first kept) ≡ [])
    → sources_in series known first (if empty then more else block_then kind kept more) ≡ sources_in series known first (block_then kind kept more)
sources_kept true series known first kind kept more gone few none =
    let z = few refl in
    let at : first ≡ first + copies_of kind * count kept = omega (arith, z) in
    let next = first + copies_of kind * count kept in
    let rest = sources_in series (known_next series (if is_loop kind then [] else known_behind first kept) known) next more in
    ap (λ k. sources_in series k first more) (sym (nothing_new series known)) ∙ ap (λ n. sources_in series (known_next series [] known) n more) at
    ∙ ap (λ new. sources_in series (known_next series new known) next more) (sym (none refl)) ∙ ap (λ front. front ++ rest) (sym (gone refl))
sources_kept false series known first kind kept more gone few none = refl

pub same_sources : (items : Items) (series : Bool) (known : List Known) (first : ℕ) → sources_in series known first (without_empty items) ≡ sources_in series known first items
same_sources nothing series known first = refl
same_sources (leaf_then l more) series known first = ap (λ x. source_of known l ∷ x) (same_sources more series (known_next series (known_by first l) known) (first + 1))
same_sources (block_then kind body more) series known first =
    let kept : Items = without_empty body in
    let inner = not (is_par kind) in
    let next = known_next series (if is_loop kind then [] else known_behind first body) known in
    sources_kept (is_nothing kept || copies_of kind == 0) series known first kind kept (without_empty more)
    (block_gone_from kind first (count kept) kept (λ b at. sources_in inner known at b) (λ at. refl)) (gone_when kind kept) (none_known first kind kept)
    ∙ (λ i. in_block_from kind first (same_count body i) (λ at. sources_in inner known at kept)
    ++ sources_in series (known_next series (if is_loop kind then [] else same_known body first i) known) (first + copies_of kind * same_count body i) (without_empty more))
    ∙ (λ i. in_block_from kind first (count body) (λ at. same_sources body inner known at i) ++ same_sources more series next (first + copies_of kind * count body) i)
