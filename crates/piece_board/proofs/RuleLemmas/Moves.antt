-- The obligation of a step: the rule holds after a change at one place, or of one seat's counts alone.
use Rattle.std.specs.List.{sum_by}
use Rattle.std.proofs.Common.{◌≡◌, ◌≢◌, ℕ, ◌+◌, ◌-◌, ◌*◌, ◌<◌, ◌≤◌, List, length, get_or, set, Option, Some, length-set, get_or-set_other, get_or-set_same, sym, ap, ◌∙◌, subst, ⊎_elim, arith}
use mathlib.Core.Logic.{dite}
use mathlib.Core.Option.{Option as Home, some}
use native.Mathlib.Decide.{ℕ_discrete}
use lib.ListN.{get_elem?}
use lib.Seq.{set-get_or}
use Rattle.limits.specs.declared.TheConstants.{PLACES}
use Rattle.atomic_table.proofs.Lists.{at_set}
use Rattle.piece_board.specs.declared.view.Content.{Content}
use Rattle.piece_board.specs.declared.view.View.{View}
use Rattle.piece_board.specs.Entries.{entry_at, AreApart}
use Rattle.piece_board.specs.Desks.{number_of}
use Rattle.piece_board.specs.Trace.{HasTrace}
use Rattle.piece_board.specs.Rule.{one_at, claims_at, posts_at, IsKnown, IsKeptEmpty, PlaceStands, ObeysRule}
use Rattle.piece_board.proofs.RuleLemmas.Lists.{changed, changed_here, changed_else}
use Rattle.piece_board.proofs.RuleLemmas.Places.{BoardState, after_step, stands_still}
use Rattle.piece_board.proofs.RuleLemmas.Counts.{sum_set}

-- the seat has the same rows as before
pub record SameRows {I : Type 0} (v w : View I) : Type 0 where
  pub first : w.desk.row ≡ v.desk.row
  pub end : w.end_row ≡ v.end_row

-- all that the rule mentions is the same
pub record SameDesks {I : Type 0} (v w : View I) : Type 0 where
  pub rows : SameRows v w
  pub hand : w.in_hand ≡ v.in_hand
  pub posted : w.desk.posted ≡ v.desk.posted
  pub claims : w.desk.claims ≡ v.desk.claims
  pub given : w.desk.given ≡ v.desk.given
  pub posts : w.desk.posts ≡ v.desk.posts

-- The obligation of a seat's step at a place: it changes the seat's knowledge of this place alone, and the place is in
-- a right state afterwards.
pub record Moves {I O : Type 0} (meets : I → O → Type 0) (s : BoardState I O) (o : ObeysRule meets s) (k seat : ℕ)
    (v w : View I) (n : ℕ) (h : Home (Content I O)) (last : Option I) (claimer : ℕ) : Type 0 where
  pub there : k < length s.homes
  pub sits : claimer < length s.views
  pub me : get_elem? s.views seat ≡ some v
  pub rows : SameRows v w
  pub hand : (j : ℕ) → j ≢ k → v.in_hand ≢ j + 1
  pub posted : (j : ℕ) → j ≢ k → PLACES * v.desk.row ≤ j
      → entry_at (j - PLACES * v.desk.row) w.desk.posted ≡ entry_at (j - PLACES * v.desk.row) v.desk.posted
  pub claims : (j : ℕ) → j ≢ k → entry_at j w.desk.claims ≡ entry_at j v.desk.claims
  pub apart : AreApart w.desk.posted × AreApart w.desk.claims
  pub here : PlaceStands meets (after_step s k n seat w h) k last (o.owner k) claimer
  pub owned : (i : ℕ) (u : View I) → get_elem? (set s.views seat w) i ≡ some u → PLACES * u.desk.row ≤ k
      → k < PLACES * u.end_row → IsKnown n last (entry_at (k - PLACES * u.desk.row) u.desk.posted)
  pub claimed : (i : ℕ) (u : View I) (x : I) → get_elem? (set s.views seat w) i ≡ some u
      → entry_at k u.desk.claims ≡ Some x → (claimer ≡ i) × (n ≡ 2) × (last ≡ Some x)
  pub counts_else : (j : ℕ) → j ≢ k → (claims_at j w ≡ claims_at j v) × (posts_at j w ≡ posts_at j v)
  pub counts_here : claims_at k w + one_at 1 n + posts_at k v ≡ claims_at k v + one_at 1 (get_or s.words k 0) + posts_at k w
  pub traced : HasTrace (set s.words k n) (set s.views seat w)

module _ {I O : Type 0} (meets : I → O → Type 0) where
  -- a place in the seat's rows after the step was in its rows before
  pub rows_before : (v w u : View I) (k : ℕ) → SameRows v w → w ≡ u → PLACES * u.desk.row ≤ k → k < PLACES * u.end_row
      → (PLACES * v.desk.row ≤ k) × (k < PLACES * v.end_row)
  rows_before v w u k rows is low high =
      let first : u.desk.row ≡ v.desk.row = ap (λ (z : View I). z.desk.row) (sym is) ∙ rows.first in
      let end : u.end_row ≡ v.end_row = ap (λ (z : View I). z.end_row) (sym is) ∙ rows.end in
      (omega (arith, low, first), omega (arith, high, end))

  module _ (s : BoardState I O) (o : ObeysRule meets s) (k seat : ℕ) (v w : View I) (n : ℕ) (h : Home (Content I O))
      (last : Option I) (claimer : ℕ) (m : Moves meets s o k seat v w n h last claimer) where
    inside : k < length s.words
    inside = omega (arith, m.there, o.as_many)

    word_here : (j : ℕ) → j ≡ k → get_or (set s.words k n) j 0 ≡ n
    word_here j is = ap (λ (i : ℕ). get_or (set s.words k n) i 0) is ∙ get_or-set_same s.words k n 0 inside

    word_else : (j : ℕ) → j ≢ k → get_or (set s.words k n) j 0 ≡ get_or s.words j 0
    word_else j ne = get_or-set_other s.words k j n 0 ne

    seated_then : (j : ℕ) → (o.owner j < length (set s.views seat w))
        × (changed o.claimer k claimer j < length (set s.views seat w))
    seated_then j =
        let long : length (set s.views seat w) ≡ length s.views = length-set s.views seat w in
        let was = o.seated j in (
          omega (arith, long, was.0),
          dite (ℕ_discrete j k)
              (λ (is : j ≡ k). let at = changed_here o.claimer k j claimer is in omega (arith, long, at, m.sits))
              (λ (ne : j ≢ k). let at = changed_else o.claimer k j claimer ne in omega (arith, long, at, was.1)),
        )

    places_then : (j : ℕ) → j < length (set s.homes k h)
        → PlaceStands meets (after_step s k n seat w h) j (changed o.last k last j) (o.owner j) (changed o.claimer k claimer j)
    places_then j lt = dite (ℕ_discrete j k)
        (λ (is : j ≡ k).
        subst (λ (q : (Option I × ℕ) × ℕ). PlaceStands meets (after_step s k n seat w h) q.1 q.0.0 (o.owner q.1) q.0.1)
        (λ i. ((sym (changed_here o.last k j last is) i, sym (changed_here o.claimer k j claimer is) i), sym is i)) m.here)
        (λ (ne : j ≢ k).
        subst (λ (q : Option I × ℕ). PlaceStands meets (after_step s k n seat w h) j q.0 (o.owner j) q.1)
        (λ i. (sym (changed_else o.last k j last ne) i, sym (changed_else o.claimer k j claimer ne) i))
        (stands_still meets s k seat v w n h j (o.last j) (o.owner j) (o.claimer j) ne m.me (m.hand j ne)
        (o.places j (subst (λ (l : ℕ). j < l) (length-set s.homes k h) lt))))

    -- a seat's knowledge of another place before the step
    owned_before : (i : ℕ) (u : View I) (j : ℕ) → j ≢ k → get_elem? (set s.views seat w) i ≡ some u
        → PLACES * u.desk.row ≤ j → j < PLACES * u.end_row
        → (o.owner j ≡ i) × IsKnown (get_or s.words j 0) (o.last j) (entry_at (j - PLACES * u.desk.row) u.desk.posted)
    owned_before i u j ne at low high = ⊎_elim
        (λ t.
        let rows = rows_before v w u j m.rows t.1 low high in
        let was = o.owned seat v j m.me rows.0 rows.1 in (
          was.0 ∙ sym t.0,
          subst (λ (e : Option I). IsKnown (get_or s.words j 0) (o.last j) e)
              (sym (m.posted j ne rows.0) ∙ ap (λ (b : ℕ). entry_at (j - PLACES * b) w.desk.posted) (sym m.rows.first)
              ∙ ap (λ (z : View I). entry_at (j - PLACES * z.desk.row) z.desk.posted) t.1) was.1,
        ))
        (λ t. o.owned i u j t.1 low high) (at_set s.views seat i w u at)

    -- the owner of the step's own place stays the same
    owner_still : (i : ℕ) (u : View I) → get_elem? (set s.views seat w) i ≡ some u
        → PLACES * u.desk.row ≤ k → k < PLACES * u.end_row → o.owner k ≡ i
    owner_still i u at low high = ⊎_elim
        (λ t. let rows = rows_before v w u k m.rows t.1 low high in (o.owned seat v k m.me rows.0 rows.1).0 ∙ sym t.0)
        (λ t. (o.owned i u k t.1 low high).0) (at_set s.views seat i w u at)

    owned_then : (i : ℕ) (u : View I) (j : ℕ) → get_elem? (set s.views seat w) i ≡ some u
        → PLACES * u.desk.row ≤ j → j < PLACES * u.end_row
        → (o.owner j ≡ i)
        × IsKnown (get_or (set s.words k n) j 0) (changed o.last k last j)
        (entry_at (j - PLACES * u.desk.row) u.desk.posted)
    owned_then i u j at low high = dite (ℕ_discrete j k)
        (λ (is : j ≡ k).
        let low' : PLACES * u.desk.row ≤ k = omega (arith, low, is) in
        let high' : k < PLACES * u.end_row = omega (arith, high, is) in (
          ap o.owner is ∙ owner_still i u at low' high',
          subst (λ (q : (ℕ × Option I) × ℕ). IsKnown q.0.0 q.0.1 (entry_at (q.1 - PLACES * u.desk.row) u.desk.posted))
              (λ e. ((sym (word_here j is) e, sym (changed_here o.last k j last is) e), sym is e))
              (m.owned i u at low' high'),
        ))
        (λ (ne : j ≢ k). let was = owned_before i u j ne at low high in (
          was.0,
          subst (λ (q : ℕ × Option I). IsKnown q.0 q.1 (entry_at (j - PLACES * u.desk.row) u.desk.posted))
              (λ e. (sym (word_else j ne) e, sym (changed_else o.last k j last ne) e)) was.1,
        ))

    claims_then : (i : ℕ) (u : View I) (j : ℕ) (x : I) → get_elem? (set s.views seat w) i ≡ some u
        → entry_at j u.desk.claims ≡ Some x
        → (changed o.claimer k claimer j ≡ i) × (get_or (set s.words k n) j 0 ≡ 2) × (changed o.last k last j ≡ Some x)
    claims_then i u j x at found = dite (ℕ_discrete j k)
        (λ (is : j ≡ k).
        let t = m.claimed i u x at (ap (λ (b : ℕ). entry_at b u.desk.claims) (sym is) ∙ found) in
        (changed_here o.claimer k j claimer is ∙ t.0, word_here j is ∙ t.1, changed_here o.last k j last is ∙ t.2))
        (λ (ne : j ≢ k).
        let was = ⊎_elim
        (λ t. let old = o.claims seat v j x m.me (sym (m.claims j ne)
        ∙ ap (λ (z : View I). entry_at j z.desk.claims) t.1 ∙ found) in (old.0 ∙ sym t.0, old.1, old.2))
        (λ t. o.claims i u j x t.1 found) (at_set s.views seat i w u at) in
        (changed_else o.claimer k j claimer ne ∙ was.0, word_else j ne ∙ was.1, changed_else o.last k j last ne ∙ was.2))

    once_then : (j : ℕ) → j < length (set s.homes k h)
        → sum_by (claims_at j) (set s.views seat w) + one_at 1 (get_or (set s.words k n) j 0)
        ≡ sum_by (posts_at j) (set s.views seat w)
    once_then j lt =
        let was = o.once j (subst (λ (l : ℕ). j < l) (length-set s.homes k h) lt) in
        let claims = sum_set (claims_at j) s.views seat v w m.me in
        let posts = sum_set (posts_at j) s.views seat v w m.me in
        dite (ℕ_discrete j k)
        (λ (is : j ≡ k).
        let word = ap (one_at 1) (word_here j is) in
        let here : claims_at j w + one_at 1 n + posts_at j v ≡ claims_at j v + one_at 1 (get_or s.words j 0) + posts_at j w =
        subst (λ (i : ℕ). claims_at i w + one_at 1 n + posts_at i v ≡ claims_at i v + one_at 1 (get_or s.words i 0) + posts_at i w)
        (sym is) m.counts_here in
        omega (arith, was, claims, posts, word, here))
        (λ (ne : j ≢ k).
        let word = ap (one_at 1) (word_else j ne) in
        let same = m.counts_else j ne in
        omega (arith, was, claims, posts, word, same.0, same.1))

    pub rule_kept : ObeysRule meets (after_step s k n seat w h)
    rule_kept = record {
      last = changed o.last k last;
      owner = o.owner;
      claimer = changed o.claimer k claimer;
      as_many = length-set s.words k n ∙ o.as_many ∙ sym (length-set s.homes k h);
      seated = seated_then;
      places = places_then;
      owned = owned_then;
      claims = claims_then;
      apart = λ i u at. ⊎_elim (λ t. subst (λ (z : View I). AreApart z.desk.posted × AreApart z.desk.claims) t.1 m.apart)
          (λ t. o.apart i u t.1) (at_set s.views seat i w u at);
      once = once_then;
      traced = m.traced;
    }

  module _ (s : BoardState I O) (o : ObeysRule meets s) (k seat : ℕ) (v w : View I) (me : get_elem? s.views seat ≡ some v) where
    -- the owner's knowledge of the place is unchanged
    pub owned_still : SameRows v w → w.desk.posted ≡ v.desk.posted → (i : ℕ) (u : View I)
        → get_elem? (set s.views seat w) i ≡ some u → PLACES * u.desk.row ≤ k → k < PLACES * u.end_row
        → IsKnown (get_or s.words k 0) (o.last k) (entry_at (k - PLACES * u.desk.row) u.desk.posted)
    owned_still rows same i u at low high = ⊎_elim
        (λ t.
        let before = rows_before v w u k rows t.1 low high in
        subst (λ (e : Option I). IsKnown (get_or s.words k 0) (o.last k) e)
        ((λ e. entry_at (k - PLACES * sym rows.first e) (sym same e))
        ∙ ap (λ (z : View I). entry_at (k - PLACES * z.desk.row) z.desk.posted) t.1)
        (o.owned seat v k me before.0 before.1).1)
        (λ t. (o.owned i u k t.1 low high).1) (at_set s.views seat i w u at)

    -- the claims at the place are unchanged
    pub claims_still : w.desk.claims ≡ v.desk.claims → (i : ℕ) (u : View I) (x : I)
        → get_elem? (set s.views seat w) i ≡ some u → entry_at k u.desk.claims ≡ Some x
        → (o.claimer k ≡ i) × (get_or s.words k 0 ≡ 2) × (o.last k ≡ Some x)
    claims_still same i u x at found = ⊎_elim
        (λ t. let was = o.claims seat v k x me (ap (entry_at k) (sym same)
        ∙ ap (λ (z : View I). entry_at k z.desk.claims) t.1 ∙ found) in (was.0 ∙ sym t.0, was.1, was.2))
        (λ t. o.claims i u k x t.1 found) (at_set s.views seat i w u at)

    -- if no other seat has a claim at the place, a claim there is this seat's
    pub claims_mine : ((i : ℕ) (u : View I) (x : I) → get_elem? s.views i ≡ some u → i ≢ seat
        → entry_at k u.desk.claims ≡ Some x → ⊥) → (i : ℕ) (u : View I) (x : I) → get_elem? (set s.views seat w) i ≡ some u
        → entry_at k u.desk.claims ≡ Some x → (seat ≡ i) × (entry_at k w.desk.claims ≡ Some x)
    claims_mine others i u x at found = ⊎_elim
        (λ t. (sym t.0, ap (λ (z : View I). entry_at k z.desk.claims) t.1 ∙ found))
        (λ t. absurd (others i u x t.1 t.0 found)) (at_set s.views seat i w u at)

    -- if the place is in this seat's rows, its owner after the step is this seat
    pub owner_is_me : SameRows v w → PLACES * v.desk.row ≤ k → k < PLACES * v.end_row → (i : ℕ) (u : View I)
        → get_elem? (set s.views seat w) i ≡ some u → PLACES * u.desk.row ≤ k → k < PLACES * u.end_row → w ≡ u
    owner_is_me rows low high i u at low' high' = ⊎_elim (λ t. t.1)
        (λ t. absurd (t.0 (sym (o.owned i u k t.1 low' high').0 ∙ (o.owned seat v k me low high).0)))
        (at_set s.views seat i w u at)

  -- a seat's counts change, and nothing else
  counts_alone : (s : BoardState I O) (o : ObeysRule meets s) (seat : ℕ) (v w : View I) → get_elem? s.views seat ≡ some v
      → SameDesks v w → HasTrace s.words (set s.views seat w) → ObeysRule meets record { words = s.words; homes = s.homes; views = set s.views seat w }
  counts_alone s o seat v w me same traced =
      let then : BoardState I O = record { words = s.words; homes = s.homes; views = set s.views seat w } in
      let long : length (set s.views seat w) ≡ length s.views = length-set s.views seat w in
      let still : (k keeper : ℕ) → IsKeptEmpty s k keeper → IsKeptEmpty then k keeper = λ k keeper old u at away. ⊎_elim
      (λ t. old v (ap (λ (i : ℕ). get_elem? s.views i) t.0 ∙ me)
      (λ is. away (ap (λ (z : View I). z.in_hand) (sym t.1) ∙ same.hand ∙ is)))
      (λ t. old u t.1 away) (at_set s.views seat keeper w u at) in
      record {
        last = o.last;
        owner = o.owner;
        claimer = o.claimer;
        as_many = o.as_many;
        seated = λ k. let was = o.seated k in (omega (arith, long, was.0), omega (arith, long, was.1));
        places = λ k lt. let p = o.places k lt in record {
          few = p.few;
          free = λ e. still k (o.owner k) (p.free e);
          opened = p.opened;
          claimed = λ e. still k (o.claimer k) (p.claimed e);
          full = p.full;
        };
        owned = λ i u k at low high. (
          ⊎_elim
              (λ t. let before = rows_before v w u k same.rows t.1 low high in (o.owned seat v k me before.0 before.1).0 ∙ sym t.0)
              (λ t. (o.owned i u k t.1 low high).0) (at_set s.views seat i w u at),
          owned_still s o k seat v w me same.rows same.posted i u at low high,
        );
        claims = λ i u k x at found. claims_still s o k seat v w me same.claims i u x at found;
        apart = λ i u at. ⊎_elim
            (λ t. subst (λ (z : View I). AreApart z.desk.posted × AreApart z.desk.claims) t.1
            (subst AreApart (sym same.posted) (o.apart seat v me).0, subst AreApart (sym same.claims) (o.apart seat v me).1))
            (λ t. o.apart i u t.1) (at_set s.views seat i w u at);
        once = λ k lt.
            let claims = sum_set (claims_at k) s.views seat v w me in
            let posts = sum_set (posts_at k) s.views seat v w me in
            let claims_same : claims_at k w ≡ claims_at k v =
            ap (sum_by (λ (spot : ℕ × ℕ). one_at k (number_of spot.0 spot.1))) same.given in
            let posts_same : posts_at k w ≡ posts_at k v =
            λ e. sum_by (λ (place : ℕ). one_at k (number_of (same.rows.first e) place)) (same.posts e) in
            omega (arith, o.once k lt, claims, posts, claims_same, posts_same);
        traced = traced;
      }

  -- the same for a step that stores in its word the value that it found there
  pub word_stays : (s : BoardState I O) (o : ObeysRule meets s) (k seat : ℕ) (v w : View I) → get_elem? s.views seat ≡ some v
      → SameDesks v w → HasTrace s.words (set s.views seat w) → ObeysRule meets record { words = set s.words k (get_or s.words k 0); homes = s.homes; views = set s.views seat w }
  word_stays s o k seat v w me same traced =
      subst (λ (words : List ℕ). ObeysRule meets record { words = words; homes = s.homes; views = set s.views seat w })
      (sym (set-get_or s.words k 0)) (counts_alone s o seat v w me same traced)
