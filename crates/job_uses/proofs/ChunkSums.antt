-- The chunks of a list come to the list, and the leaves that add them up.
use Rattle.std.proofs.Common.{◌≡◌, ℕ, zero, suc, ◌+◌, ◌*◌, ◌<◌, ◌≤◌, inl, inr, List, [], ◌∷◌, ◌++◌, length, map, take, drop, get_or, None, Some, refl, sym, ap, ◌∙◌, subst, arith}
use Rattle.std.specs.Prelude.{min, slice_get, sum}
use Rattle.std.specs.Int.{div_ceil}
use Rattle.std.specs.List.{AllByRecursion, range_with_len}
use Rattle.std.proofs.Math.ListN.{drop_of_length-le}
use Rattle.std.proofs.Math.Seq.{drop-length}
use Rattle.std.proofs.lemmas.Bool.{cases_lt}
use Rattle.std.proofs.lemmas.Grind.{div_ceil_times}
use Rattle.std.proofs.lemmas.List.{drop-take, take-take, take_all, take_min}
use Rattle.std.proofs.lemmas.List.FromFn.{get_or-map-range_with_len, length-map-range_with_len, map-range_with_len_more}
use Rattle.std.proofs.lemmas.List.Sums.{sum_by-take-drop, sum_by-take-le}
use Rattle.seq_objects.specs.declared.act.Act.{Act}
use Rattle.seq_objects.specs.declared.act.Act.TheVariants.{Work}
use Rattle.sp_order.specs.Objects.{AreUnnamed}
use Rattle.leaf_handles.specs.Handles.{HandleValue}
use Rattle.job_builder.specs.Drafts.{Draft, built}
use Rattle.job_builder.proofs.Unnamed.{acts_stay}
use Rattle.job_uses.specs.Chunks.{chunk_of}
use Rattle.job_uses.proofs.ThreeParts.{get_mapped}

-- the items of the first chunks, and one chunk more
pub more_chunks : (items : List ℕ) (width chunks : ℕ) → sum (take (chunks * width) items) + sum (chunk_of width items chunks) ≡ sum (take ((chunks + 1) * width) items)
more_chunks items width chunks =
    let at : ℕ = chunks * width in
    let whole : at + width ≡ (chunks + 1) * width = omega arith in
    let front = take-take at (at + width) items (omega arith) in
    let behind = drop-take at width items in
    (λ i. sum (sym front i) + sum (sym behind i)) ∙ sum_by-take-drop (λ (n : ℕ). n) (take (at + width) items) at ∙ ap (λ n. sum (take n items)) whole

pub few_items : (items : List ℕ) (n : ℕ) → sum (take n items) ≤ sum items
few_items items n = sum_by-take-le (λ (n : ℕ). n) items n

pub small_chunk : (items : List ℕ) (width number : ℕ) → sum (chunk_of width items number) ≤ sum items
small_chunk items width number =
    let part = few_items (drop (number * width) items) width in
    let whole = sum_by-take-drop (λ (n : ℕ). n) items (number * width) in
    omega (arith, part, whole)

-- a chunk, as it is cut
pub chunk_cut : (items rest chunk : List ℕ) (width number at : ℕ) → rest ≡ drop (min at (length items)) items → chunk ≡ take (min width (length rest)) rest
    → min at (length items) ≡ min (number * width) (length items) → chunk ≡ chunk_of width items number
chunk_cut items rest chunk width number at from is same =
    is ∙ take_min width rest ∙ ap (take width) (from ∙ ap (λ n. drop n items) same ∙ drop_min (number * width) items)
  where
    drop_min : (n : ℕ) (xs : List ℕ) → drop (min n (length xs)) xs ≡ drop n xs
    drop_min n xs = elim (cases_lt n (length xs)) [
      | inl less ↦ let low : min n (length xs) ≡ n = omega (arith, less) in ap (λ k. drop k xs) low
      | inr most ↦ let high : min n (length xs) ≡ length xs = omega (arith, most) in ap (λ k. drop k xs) high ∙ drop-length xs ∙ sym (drop_of_length-le xs most)
    ]

-- all chunks have all items
pub all_chunks : (items : List ℕ) (width : ℕ) → 0 < width → sum (take (div_ceil (length items) width * width) items) ≡ sum items
all_chunks items width some = ap sum (take_all (div_ceil (length items) width * width) items (div_ceil_times (length items) width some).0)

-- the leaves, by number

pub act_count : (chunks : ℕ) (acts : List Act) → acts ≡ map Work (range_with_len 0 chunks) → length acts ≡ chunks
act_count chunks acts are = ap length are ∙ length-map-range_with_len (λ n. Work n) 0 chunks

abbrev pub handle : ℕ → HandleValue
handle leaf = record { job = 0; leaf = leaf }

pub handle_count : (chunks : ℕ) (leaves : List HandleValue) → leaves ≡ map handle (range_with_len 0 chunks) → length leaves ≡ chunks
handle_count chunks leaves are = ap length are ∙ length-map-range_with_len handle 0 chunks

pub handle_at : (chunks number : ℕ) (leaves : List HandleValue) (other : HandleValue) → leaves ≡ map handle (range_with_len 0 chunks) → number < chunks
    → get_or leaves number other ≡ handle number
handle_at chunks number leaves other are less =
    ap (λ xs. get_or xs number other) are ∙ get_or-map-range_with_len handle 0 chunks number number other less (omega arith)

pub act_at : (chunks number : ℕ) (acts : List Act) → acts ≡ map Work (range_with_len 0 chunks) → number < chunks → slice_get acts number ≡ Some (Work number)
act_at chunks number acts are less = ap (λ xs. slice_get xs number) are ∙ get_mapped (λ n. Work n) chunks number less

-- one leaf more

pub more_acts : (number : ℕ) (before after : List Act) → before ≡ map Work (range_with_len 0 number) → after ≡ before ++ Work number ∷ [] → after ≡ map Work (range_with_len 0 (number + 1))
more_acts number before after are is =
    let work : ℕ → Act = λ n. Work n in
    is ∙ ap (λ xs. xs ++ Work number ∷ []) are ∙ sym (map-range_with_len_more work 0 number number (omega arith))

pub more_handles : (number : ℕ) (before after : List HandleValue) (added : HandleValue) → before ≡ map handle (range_with_len 0 number) → after ≡ before ++ added ∷ []
    → added.job ≡ 0 → added.leaf ≡ number → after ≡ map handle (range_with_len 0 (number + 1))
more_handles number before after added are is job leaf =
    let one : added ≡ handle number = λ i. record { job = job i; leaf = leaf i } in
    is ∙ (λ i. are i ++ one i ∷ []) ∙ sym (map-range_with_len_more handle 0 number number (omega arith))

-- the acts of the job that is built

unnamed_work : (first chunks : ℕ) → AreUnnamed (map Work (range_with_len first chunks))
unnamed_work first zero = tt
unnamed_work first (suc chunks) = (refl, unnamed_work (first + 1) chunks)

pub built_acts : (draft : Draft) (chunks : ℕ) → draft.acts ≡ map Work (range_with_len 0 chunks) → AllByRecursion (λ object. object ≡ None) draft.objects
    → (built draft).acts ≡ map Work (range_with_len 0 chunks)
built_acts draft chunks are none = acts_stay draft.acts draft.objects (subst AreUnnamed (sym are) (unnamed_work 0 chunks)) none ∙ are
