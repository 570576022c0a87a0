-- The amortized cost of rooms: the calls since a stripe's last change of room pay for its next one.
use Rattle.std.proofs.Common.{◌≡◌, ℕ, zero, suc, ◌+◌, ◌-◌, ◌*◌, ◌/◌, ◌%◌, ◌<◌, ◌≤◌, ◌⊎◌, inl, inr, true, false, cond, ltb, eqb, List, [], ◌∷◌, slice_index, refl, arith}
use Rattle.std.proofs.lemmas.Bool.{ltb-true, lt-ltb, eq-eqb, eqb-true, eqb-false}
use Rattle.batched_stack.specs.Stripes.{stripe_length}
use Rattle.batched_stack.specs.Rooms.{NeedsRoom, IsRoomFor, IsNext, AreNext}
use Rattle.batched_stack.specs.Copies.{BatchCounts, length_after, FollowRule, copied_by, copied_items, call_count, first_rooms}

-- the credit that the calls since the last change have built up
abbrev paid : ℕ → ℕ → ℕ
paid room len = 2 * (len - room / 2) + cond (ltb 16 room) (2 * (room / 4 - len)) 0

-- one item more or less adds at most two to the credit
paid_step : (room len new : ℕ) → (new ≡ len + 1) ⊎ (len ≡ new + 1)
    → paid room new ≤ paid room len + 2
paid_step room len new change =
    elim (ltb 16 room) as (λ b. 2 * (new - room / 2) + cond b (2 * (room / 4 - new)) 0 ≤ 2 * (len - room / 2) + cond b (2 * (room / 4 - len)) 0 + 2) [
      | true ↦ elim change [ inl more ↦ omega (arith, more) | inr less ↦ omega (arith, less) ]
      | false ↦ elim change [ inl more ↦ omega (arith, more) | inr less ↦ omega (arith, less) ]
    ]

-- a new room starts without credit
paid_new : (len new : ℕ) → IsRoomFor len new → paid new len ≡ 0
paid_new len new r =
    elim (ltb 16 new) as (λ b. ltb 16 new ≡ b → 2 * (len - new / 2) + cond b (2 * (new / 4 - len)) 0 ≡ 0) [
      | true ↦ λ e. let big : 16 < new = ltb-true 16 new e in let enough = r.enough in elim r.least [ inl is ↦ absurd (omega (arith, is)) | inr less ↦ omega (arith, less) ]
      | false ↦ λ e. let enough = r.enough in omega arith
    ] refl

paid_enough : (room len : ℕ) → NeedsRoom room len → len ≤ paid room len
paid_enough room len (inl grows) = elim (ltb 16 room) as (λ b. len ≤ 2 * (len - room / 2) + cond b (2 * (room / 4 - len)) 0) [ true ↦ omega arith | false ↦ omega arith ]
paid_enough room len (inr (big, small)) = rw (lt-ltb 16 room big) (omega arith)

change : (room len new : ℕ) → IsNext room len new
    → cond (eqb new room) 0 len + paid new len ≤ paid room len
change room len new (inl (out, fresh)) =
    let enough = paid_enough room len out in
    let none = paid_new len new fresh in
    elim (eqb new room) as (λ b. cond b 0 len + paid new len ≤ paid room len) [ true ↦ omega (arith, none, enough) | false ↦ omega (arith, none, enough) ]
change room len new (inr (stays, is)) = rw (is, eq-eqb room room refl) (omega arith)

-- the credit of the first j stripes, where the stack has n items
abbrev paid_by : ℕ → List ℕ → ℕ → ℕ
paid_by zero rooms n = 0
paid_by (suc j) rooms n = paid (slice_index rooms j) (stripe_length j n) + paid_by j rooms n

-- the credit of the first j stripes covers what their changes of room copy
changes : (stripes : ℕ) (rooms : List ℕ) (n : ℕ) (new : List ℕ) → stripes ≤ 16 → AreNext rooms n new
    → copied_by stripes rooms n new + paid_by stripes new n ≤ paid_by stripes rooms n
changes zero rooms n new few next = omega arith
changes (suc j) rooms n new few next =
    let one = change (slice_index rooms j) (stripe_length j n) (slice_index new j) (next j (omega (arith, few))) in
    let others = changes j rooms n new (omega (arith, few)) next in
    omega (arith, one, others)

other_length : (j n : ℕ) → j < 16 → (n % 16 ≡ j → ⊥) → stripe_length j (n + 1) ≡ stripe_length j n
other_length j n low other = omega (arith, other)

own_length : (j n : ℕ) → j < 16 → n % 16 ≡ j → stripe_length j (n + 1) ≡ stripe_length j n + 1
own_length j n low is = omega (arith, is)

-- the credit of the stripes below the item's own is unchanged
paid_same : (stripes : ℕ) (rooms : List ℕ) (n : ℕ) → stripes ≤ n % 16
    → paid_by stripes rooms (n + 1) ≡ paid_by stripes rooms n
paid_same zero rooms n above = refl
paid_same (suc j) rooms n above =
    let same : stripe_length j (n + 1) ≡ stripe_length j n = other_length j n (omega (arith, above)) (λ is. omega (arith, above, is)) in
    rw same (omega (arith, paid_same j rooms n (omega (arith, above))))

-- one item more or less on the stack adds at most two to the credit of the first j stripes
paid_up : (stripes : ℕ) (rooms : List ℕ) (n : ℕ) → stripes ≤ 16
    → (paid_by stripes rooms (n + 1) ≤ paid_by stripes rooms n + 2) × (paid_by stripes rooms n ≤ paid_by stripes rooms (n + 1) + 2)
paid_up zero rooms n few = (omega arith, omega arith)
paid_up (suc j) rooms n few =
    let room = slice_index rooms j in
    let low : j < 16 = omega (arith, few) in
    elim (eqb (n % 16) j) as (λ b. eqb (n % 16) j ≡ b → (paid_by (suc j) rooms (n + 1) ≤ paid_by (suc j) rooms n + 2) × (paid_by (suc j) rooms n ≤ paid_by (suc j) rooms (n + 1) + 2)) [
      | true ↦ λ e.
          let is = eqb-true (n % 16) j e in
          let own = own_length j n low is in
          let more = paid_step room (stripe_length j n) (stripe_length j (n + 1)) (inl own) in
          let less = paid_step room (stripe_length j (n + 1)) (stripe_length j n) (inr own) in
          let others = paid_same j rooms n (omega (arith, is)) in
          (omega (arith, more, others), omega (arith, less, others))
      | false ↦ λ e.
          let same = other_length j n low (eqb-false (n % 16) j e) in
          let others = paid_up j rooms n (omega (arith, few)) in
          rw same (omega (arith, others.0), omega (arith, others.1))
    ] refl

paid_pushes : (pushes : ℕ) (rooms : List ℕ) (n : ℕ)
    → paid_by 16 rooms (n + pushes) ≤ paid_by 16 rooms n + 2 * pushes
paid_pushes zero rooms n = let same : n + 0 ≡ n = omega arith in rw same (omega arith)
paid_pushes (suc pushes) rooms n =
    let same : n + suc pushes ≡ n + pushes + 1 = omega arith in
    rw same (omega (arith, (paid_up 16 rooms (n + pushes) (omega arith)).0, paid_pushes pushes rooms n))

paid_pops : (pops : ℕ) (rooms : List ℕ) (n : ℕ)
    → paid_by 16 rooms (n - pops) ≤ paid_by 16 rooms n + 2 * pops
paid_pops zero rooms n = let same : n - 0 ≡ n = omega arith in rw same (omega arith)
paid_pops (suc pops) rooms zero = let same : 0 - suc pops ≡ 0 = omega arith in rw same (omega arith)
paid_pops (suc pops) rooms (suc n) =
    let same : suc n - suc pops ≡ n - pops = omega arith in
    let more : suc n ≡ n + 1 = omega arith in
    rw (same, more) (omega (arith, (paid_up 16 rooms n (omega arith)).1, paid_pops pops rooms n))

paid_for : (n : ℕ) (rooms : List ℕ) (batches : List BatchCounts) → FollowRule n rooms batches
    → copied_items n rooms batches ≤ 2 * call_count batches + paid_by 16 rooms n
paid_for n rooms [] follow = omega arith
paid_for n rooms (batch ∷ batches) follow =
    let up = paid_pushes batch.pushes rooms n in
    let down = paid_pops batch.pops rooms (n + batch.pushes) in
    let now = changes 16 rooms (length_after n batch) batch.rooms (omega arith) follow.0 in
    let later = paid_for (length_after n batch) batch.rooms batches follow.1 in
    omega (arith, up, down, now, later)

pub copied_at_most : (batches : List BatchCounts) → FollowRule 0 first_rooms batches
    → copied_items 0 first_rooms batches ≤ 2 * call_count batches
copied_at_most batches follow = omega (arith, paid_for 0 first_rooms batches follow)
