-- The steps of a post, a claim, a finish and a collect keep the rule, and so do the loads by which a seat takes a slot
-- in hand and puts it back.
use Rattle.std.proofs.Common.{◌≡◌, ◌≢◌, ℕ, ◌+◌, ◌-◌, ◌*◌, ◌<◌, ◌≤◌, List, ◌∷◌, length, get_or, set, eqb, Option, None, Some, get_or-set_same, sym, refl, ap, ◌∙◌, subst, arith}
use mathlib.Core.Option.{Option as Home, some, none}
use lib.ListN.{get_elem?}
use lib.Seq.{set-get_or}
use prog.Atomic.{either}
use Rattle.limits.specs.declared.TheConstants.{PLACES}
use Rattle.atomic_table.specs.Table.{step, Act, keeps, takes, gives, Valid, carried_after, stepped, Allows}
use Rattle.atomic_table.proofs.Lists.{set_here, exchanged}
use Rattle.piece_board.specs.declared.view.Content.{Content}
use Rattle.piece_board.specs.declared.view.Content.TheVariants.{Nothing, Input, Output}
use Rattle.piece_board.specs.declared.view.View.{View}
use Rattle.piece_board.specs.Entries.{entry_at, without}
use Rattle.piece_board.specs.Desks.{number_of, posted_at, after_post, after_claim, after_refusal, after_finish, after_collect, after_empty_collect}
use Rattle.piece_board.specs.declared.view.Miss.{Miss}
use Rattle.piece_board.specs.Trace.{HasTrace}
use Rattle.piece_board.specs.Moments.{IsMissAt}
use Rattle.piece_board.specs.Rule.{one_at, IsKnown, IsKeptEmpty, PlaceStands, ObeysRule}
use Rattle.piece_board.specs.Steps.{with_in_hand, then_desk, then_desk_with, with_miss, TakesInHand, PutsBack, Posts, Claims, Strays, Finishes, Collects}
use Rattle.piece_board.proofs.RuleLemmas.Entries.{none_is_not, entry_first, entry_later, entry_before, entry_last, entry_gone, entry_stays, apart_with_last, apart_without}
use Rattle.piece_board.proofs.RuleLemmas.Lists.{inside}
use Rattle.piece_board.proofs.RuleLemmas.Places.{BoardState, after_step, stands_free, stands_open, stands_claimed, stands_full, kept_in_hand, known_still, known_last}
use Rattle.piece_board.proofs.RuleLemmas.Counts.{one_here, none_else, posts_more, claims_more}
use Rattle.piece_board.proofs.RuleLemmas.Traces.{trace_looks, trace_misses, trace_grows, miss_of, all_before}
use Rattle.piece_board.proofs.RuleLemmas.Moves.{SameRows, SameDesks, Moves, rule_kept, owned_still, claims_still, claims_mine, owner_is_me, word_stays}

-- place `k` of the board is place `place` of the seat's own row
pub record IsOwn {I : Type 0} (v : View I) (k place : ℕ) : Type 0 where
  pub number : k ≡ number_of v.desk.row place
  pub below : place < PLACES
  pub row : v.end_row ≡ v.desk.row + 1

from_row : {I : Type 0} (v : View I) (k place : ℕ) → IsOwn v k place → PLACES * v.desk.row ≤ k
from_row v k place own = omega (arith, own.number)

to_row : {I : Type 0} (v : View I) (k place : ℕ) → IsOwn v k place → k < PLACES * v.end_row
to_row v k place own = omega (arith, own.number, own.below, own.row)

in_row : {I : Type 0} (v : View I) (k place : ℕ) → IsOwn v k place → k - PLACES * v.desk.row ≡ place
in_row v k place own = omega (arith, own.number)

apart_in_row : {I : Type 0} (v : View I) (k place j : ℕ) → IsOwn v k place → j ≢ k → PLACES * v.desk.row ≤ j
    → j - PLACES * v.desk.row ≢ place
apart_in_row v k place j own ne low is = ne (omega (arith, own.number, low, is))

same_input : {I O : Type 0} (k : ℕ) (xs ys : List (ℕ × Content I O)) (x y : I) → (k, Input x) ∷ xs ≡ (k, Input y) ∷ ys → x ≡ y
same_input k xs ys x y e = let h = ap (λ (l : List (ℕ × Content _ _)). (get_or l 0 (k, Input x)).1) e in cc

nothing_there : {I : Type 0} (o : Option I) → ((x : I) → o ≡ Some x → ⊥) → o ≡ None
nothing_there None never = refl
nothing_there (Some x) never = absurd (never x refl)

same_row : (k row place row' place' : ℕ) → place < PLACES → place' < PLACES → k ≡ number_of row place
    → k ≡ number_of row' place'
    → row ≡ row'
same_row k row place row' place' below below' is is' = omega (arith, below, below', is, is')

same_place : (k row place row' place' : ℕ) → place < PLACES → place' < PLACES → k ≡ number_of row place
    → k ≡ number_of row' place'
    → place ≡ place'
same_place k row place row' place' below below' is is' = omega (arith, below, below', is, is')

refused : {I : Type 0} (v : View I) (miss : Miss) (row place : ℕ) → v.in_hand ≡ 0 → SameDesks v (with_miss miss (after_refusal row place) v)
refused v miss row place empty = record {
  rows = record { first = refl; end = refl };
  hand = sym empty;
  posted = refl;
  claims = refl;
  given = refl;
  posts = refl;
}

found_empty : {I : Type 0} (v : View I) (miss : Miss) → v.in_hand ≡ 0 → SameDesks v (with_miss miss after_empty_collect v)
found_empty v miss empty = record {
  rows = record { first = refl; end = refl };
  hand = sym empty;
  posted = refl;
  claims = refl;
  given = refl;
  posts = refl;
}

module _ {I O : Type 0} (meets : I → O → Type 0) where
  module _ (s : BoardState I O) (o : ObeysRule meets s) (k seat : ℕ) (v : View I) (me : get_elem? s.views seat ≡ some v) where
    me_now : (w : View I) → get_elem? (set s.views seat w) seat ≡ some w
    me_now w = set_here s.views seat w (inside s.views seat v me)

    -- the slot is in the hand of this seat, which may use it
    in_my_hand : (n keeper b : ℕ) (w : View I) (h : Home (Content I O)) → keeper ≡ seat → w.in_hand ≡ k + 1
        → IsKeptEmpty (after_step s k n seat w h) k keeper
    in_my_hand n keeper b w h mine hand =
        subst (λ (m : ℕ). IsKeptEmpty (after_step s k n seat w h) k m) (sym mine)
        (kept_in_hand (after_step s k n seat w h) k seat w (me_now w) hand)

    free_word : (place : ℕ) → IsOwn v k place → posted_at place v.desk ≡ None → get_or s.words k 0 ≡ 0
    free_word place own free =
        subst (λ (e : Option I). IsKnown (get_or s.words k 0) (o.last k) e)
        (ap (λ (i : ℕ). entry_at i v.desk.posted) (in_row v k place own) ∙ free)
        (o.owned seat v k me (from_row v k place own) (to_row v k place own)).1

    -- a look at the word of the place, which misses
    missed : (n : ℕ) → length s.homes ≡ n → IsMissAt meets n v k (miss_of s.words s.views o.traced seat v me k)
    missed n wide = record {
      word = refl;
      events = refl;
      at = record {
        board = s;
        obeys = o;
        wide = o.as_many ∙ wide;
        seat = seat;
        seated = me;
        long = refl;
        own = o.traced.events seat v me;
        later = all_before s.words s.views o.traced seat v me;
      };
      found = refl;
    }

    look_moves : (b : ℕ) (h : Home (Content I O)) → k < length s.homes → ((j : ℕ) → j ≢ k → v.in_hand ≢ j + 1)
        → PlaceStands meets (after_step s k (get_or s.words k 0) seat (with_in_hand b v) h) k (o.last k) (o.owner k) (o.claimer k)
        → Moves meets s o k seat v (with_in_hand b v) (get_or s.words k 0) h (o.last k) (o.claimer k)
    look_moves b h there hand here = record {
      there = there;
      sits = (o.seated k).1;
      me = me;
      rows = record { first = refl; end = refl };
      hand = hand;
      posted = λ j ne low. refl;
      claims = λ j ne. refl;
      apart = o.apart seat v me;
      here = here;
      owned = owned_still meets s o k seat v (with_in_hand b v) me (record { first = refl; end = refl }) refl;
      claimed = claims_still meets s o k seat v (with_in_hand b v) me refl;
      counts_else = λ j ne. (refl, refl);
      counts_here = refl;
      traced = subst (λ (words : List ℕ). HasTrace words (set s.views seat (with_in_hand b v))) (sym (set-get_or s.words k 0))
          (trace_looks s.words s.views o.traced seat v me (with_in_hand b v) refl refl);
    }

  -- the owner of a free place takes its slot in hand
  pub takes_own : (n seat : ℕ) (v : View I) (xs : List (ℕ × Content I O)) (k place : ℕ) → k < n → v.in_hand ≡ 0
      → IsOwn v k place → posted_at place v.desk ≡ None
      → Allows (ObeysRule meets) n seat (v, xs) k (λ y. y) (TakesInHand (step n k 0 0 none) (v, xs))
  takes_own n seat v xs k place lt empty own free s o wide me fits =
      let was = o.owned seat v k me (from_row v k place own) (to_row v k place own) in
      let word = free_word s o k seat v me place own free in
      let there : k < length s.homes = omega (arith, wide, lt) in
      let inside_words : k < length s.words = omega (arith, there, o.as_many) in
      let w : View I = with_in_hand (k + 1) v in (
        w,
        takes k Nothing,
        (o.places k there).free word v (ap (λ (m : ℕ). get_elem? s.views m) was.0 ∙ me) (λ e. omega (arith, e, empty)),
        rule_kept meets s o k seat v w (get_or s.words k 0) none (o.last k) (o.claimer k)
            (look_moves s o k seat v me (k + 1) none there (λ j ne e. omega (arith, e, empty))
            (stands_free meets _ k (o.last k) (o.owner k) (o.claimer k)
            (get_or-set_same s.words k (get_or s.words k 0) 0 inside_words ∙ word)
            (in_my_hand s o k seat v me (get_or s.words k 0) (o.owner k) 0 w none was.0 refl))),
        refl,
      )

  -- the claimer of a place takes its slot in hand
  pub takes_claim : (n seat : ℕ) (v : View I) (xs : List (ℕ × Content I O)) (k : ℕ) (x : I) → k < n → v.in_hand ≡ 0
      → entry_at k v.desk.claims ≡ Some x
      → Allows (ObeysRule meets) n seat (v, xs) k (λ y. y) (TakesInHand (step n k 0 0 none) (v, xs))
  takes_claim n seat v xs k x lt empty mine s o wide me fits =
      let was = o.claims seat v k x me mine in
      let there : k < length s.homes = omega (arith, wide, lt) in
      let inside_words : k < length s.words = omega (arith, there, o.as_many) in
      let w : View I = with_in_hand (k + 1) v in (
        w,
        takes k Nothing,
        (o.places k there).claimed was.1 v (ap (λ (m : ℕ). get_elem? s.views m) was.0 ∙ me) (λ e. omega (arith, e, empty)),
        rule_kept meets s o k seat v w (get_or s.words k 0) none (o.last k) (o.claimer k)
            (look_moves s o k seat v me (k + 1) none there (λ j ne e. omega (arith, e, empty))
            (stands_claimed meets _ k (o.last k) (o.owner k) (o.claimer k)
            (get_or-set_same s.words k (get_or s.words k 0) 0 inside_words ∙ was.1)
            (in_my_hand s o k seat v me (get_or s.words k 0) (o.claimer k) 0 w none was.0 refl))),
        refl,
      )

  -- the owner of a free place puts its slot back
  pub puts_own : (n seat : ℕ) (v : View I) (xs : List (ℕ × Content I O)) (k place : ℕ) → k < n → v.in_hand ≡ k + 1
      → IsOwn v k place → posted_at place v.desk ≡ None
      → Allows (ObeysRule meets) n seat (v, (k, Nothing) ∷ xs) k (λ y. y)
      (PutsBack (step n k 0 0 none) (v, (k, Nothing) ∷ xs))
  puts_own n seat v xs k place lt full own free s o wide me fits =
      let word = free_word s o k seat v me place own free in
      let there : k < length s.homes = omega (arith, wide, lt) in
      let inside_words : k < length s.words = omega (arith, there, o.as_many) in (
        with_in_hand 0 v,
        gives,
        tt,
        rule_kept meets s o k seat v (with_in_hand 0 v) (get_or s.words k 0) (some Nothing) (o.last k) (o.claimer k)
            (look_moves s o k seat v me 0 (some Nothing) there (λ j ne e. ne (omega (arith, e, full)))
            (stands_free meets _ k (o.last k) (o.owner k) (o.claimer k)
            (get_or-set_same s.words k (get_or s.words k 0) 0 inside_words ∙ word)
            (λ u at away. set_here s.homes k (some Nothing) there))),
        refl,
      )

  -- the claimer of a place puts its slot back
  pub puts_claim : (n seat : ℕ) (v : View I) (xs : List (ℕ × Content I O)) (k : ℕ) (x : I) → k < n → v.in_hand ≡ k + 1
      → entry_at k v.desk.claims ≡ Some x
      → Allows (ObeysRule meets) n seat (v, (k, Nothing) ∷ xs) k (λ y. y)
      (PutsBack (step n k 0 0 none) (v, (k, Nothing) ∷ xs))
  puts_claim n seat v xs k x lt full mine s o wide me fits =
      let was = o.claims seat v k x me mine in
      let there : k < length s.homes = omega (arith, wide, lt) in
      let inside_words : k < length s.words = omega (arith, there, o.as_many) in (
        with_in_hand 0 v,
        gives,
        tt,
        rule_kept meets s o k seat v (with_in_hand 0 v) (get_or s.words k 0) (some Nothing) (o.last k) (o.claimer k)
            (look_moves s o k seat v me 0 (some Nothing) there (λ j ne e. ne (omega (arith, e, full)))
            (stands_claimed meets _ k (o.last k) (o.owner k) (o.claimer k)
            (get_or-set_same s.words k (get_or s.words k 0) 0 inside_words ∙ was.1)
            (λ u at away. set_here s.homes k (some Nothing) there))),
        refl,
      )

  -- the owner of a free place opens it
  pub posts : (n seat : ℕ) (v : View I) (xs : List (ℕ × Content I O)) (k place : ℕ) (x : I) → k < n → v.in_hand ≡ k + 1
      → IsOwn v k place → posted_at place v.desk ≡ None
      → Allows (ObeysRule meets) n seat (v, (k, Input x) ∷ xs) k (λ _. 1)
      (λ _. Posts (step n k 1 0 none) (v, (k, Input x) ∷ xs) 1)
  posts n seat v xs k place x lt full own free s o wide me fits =
      let word = free_word s o k seat v me place own free in
      let there : k < length s.homes = omega (arith, wide, lt) in
      let inside_words : k < length s.words = omega (arith, there, o.as_many) in
      let w : View I = then_desk k (after_post place x) v in
      let rows : SameRows v w = record { first = refl; end = refl } in
      let apart = o.apart seat v me in (
        w,
        gives,
        tt,
        rule_kept meets s o k seat v w 1 (some (Input x)) (Some x) (o.claimer k) (record {
          there = there;
          sits = (o.seated k).1;
          me = me;
          rows = rows;
          hand = λ j ne e. ne (omega (arith, e, full));
          posted = λ j ne low. entry_before (j - PLACES * v.desk.row) place x v.desk.posted
              (apart_in_row v k place j own ne low);
          claims = λ j ne. refl;
          apart = (apart_with_last place x v.desk.posted free apart.0, apart.1);
          here = stands_open meets _ k (Some x) (o.owner k) (o.claimer k) (get_or-set_same s.words k 1 0 inside_words) x refl
              (set_here s.homes k (some (Input x)) there);
          owned = λ i u at low high.
              let mine = owner_is_me meets s o k seat v w me rows (from_row v k place own) (to_row v k place own) i u at low high in
              subst (λ (e : Option I). IsKnown 1 (Some x) e)
              (sym (entry_last place x v.desk.posted free)
              ∙ ap (λ (j : ℕ). entry_at j w.desk.posted) (sym (in_row v k place own))
              ∙ ap (λ (z : View I). entry_at (k - PLACES * z.desk.row) z.desk.posted) mine)
              ((λ (e : 1 ≡ 0). omega (arith, e)), refl);
          claimed = λ i u y at found.
              let t = claims_still meets s o k seat v w me refl i u y at found in absurd (omega (arith, t.1, word));
          counts_else = λ j ne.
              let more = posts_more j k place x v in
              let other = none_else j (number_of v.desk.row place) (λ is. ne (sym is ∙ sym own.number)) in
              (refl, omega (arith, more, other));
          counts_here =
              let more = posts_more k k place x v in
              let this = one_here k (number_of v.desk.row place) (sym own.number) in
              let was_free : one_at 1 (get_or s.words k 0) ≡ 0 = ap (one_at 1) word in
              omega (arith, more, this, was_free);
          traced = trace_grows s.words s.views o.traced seat v me k 1 w inside_words refl refl (omega (arith, word));
        }),
        λ place' x' is held.
            let there_too : place' ≡ place = omega (arith, is, own.number) in
            let x_too : x ≡ x' = same_input k xs _ x x' held in
            λ e. (then_desk k (after_post (sym there_too e) (x_too e)) v, xs),
      )

  -- a seat claims an open place, or finds it not open
  pub claims : (n seat : ℕ) (v : View I) (xs : List (ℕ × Content I O)) (k row place : ℕ) → k < n → v.in_hand ≡ 0
      → place < PLACES → k ≡ number_of row place
      → Allows (ObeysRule meets) n seat (v, xs) k (λ y. either (eqb y 1) 2 y) (Claims meets (step n k 1 2 none) (v, xs))
  claims n seat v xs k row place lt empty below number s o wide me fits =
      let there : k < length s.homes = omega (arith, wide, lt) in
      let inside_words : k < length s.words = omega (arith, there, o.as_many) in
      let apart = o.apart seat v me in
      exchanged (get_or s.words k 0) 1 2 (λ y. (w : View I) × (a : Act (Content I O)) × Valid s.homes xs a
      × ObeysRule meets (stepped s k y seat xs w a)
      × Claims meets (step n k 1 2 none) (v, xs) (get_or s.words k 0) (w, carried_after xs a))
      (λ one.
      let opened = (o.places k there).opened one in
      let x = opened.0 in
      let w : View I = then_desk_with k (after_claim row place x) v in
      let rows : SameRows v w = record { first = refl; end = refl } in
      let nobody : (i : ℕ) (u : View I) (y : I) → get_elem? s.views i ≡ some u → entry_at k u.desk.claims ≡ Some y → ⊥ =
      λ i u y at found. let t = o.claims i u k y at found in omega (arith, one, t.1) in
      let none_yet : entry_at (number_of row place) v.desk.claims ≡ None =
      nothing_there (entry_at (number_of row place) v.desk.claims)
      (λ y found. nobody seat v y me (ap (λ (j : ℕ). entry_at j v.desk.claims) number ∙ found)) in (
        w,
        takes k (Input x),
        opened.2,
        rule_kept meets s o k seat v w 2 none (o.last k) seat (record {
          there = there;
          sits = inside s.views seat v me;
          me = me;
          rows = rows;
          hand = λ j ne e. omega (arith, e, empty);
          posted = λ j ne low. refl;
          claims = λ j ne. entry_later j (number_of row place) x v.desk.claims (λ is. ne (is ∙ sym number));
          apart = (apart.0, (none_yet, apart.1));
          here = stands_claimed meets _ k (o.last k) (o.owner k) seat (get_or-set_same s.words k 2 0 inside_words)
              (in_my_hand s o k seat v me 2 seat 0 w none refl refl);
          owned = λ i u at low high. known_still (entry_at (k - PLACES * u.desk.row) u.desk.posted)
              (get_or s.words k 0) 2 (o.last k) (λ e. omega (arith, e, one)) (λ e. omega (arith, e))
              (owned_still meets s o k seat v w me rows refl i u at low high);
          claimed = λ i u y at found.
              let t = claims_mine meets s o k seat v w me (λ i' u' y' at' ne found'. nobody i' u' y' at' found') i u y at found in (
                t.0,
                refl,
                opened.1 ∙ sym (entry_first (number_of row place) x v.desk.claims)
                    ∙ ap (λ (j : ℕ). entry_at j w.desk.claims) (sym number) ∙ t.1,
              );
          counts_else = λ j ne.
              let more = claims_more j k row place x v in
              let other = none_else j (number_of row place) (λ is. ne (sym is ∙ sym number)) in
              (omega (arith, more, other), refl);
          counts_here =
              let more = claims_more k k row place x v in
              let this = one_here k (number_of row place) (sym number) in
              let was_open : one_at 1 (get_or s.words k 0) ≡ 1 = ap (one_at 1) one in
              omega (arith, more, this, was_open);
          traced = trace_grows s.words s.views o.traced seat v me k 2 w inside_words refl refl (omega (arith, one));
        }),
        λ row' place' below' number'.
            let row_is = same_row k row place row' place' below below' number number' in
            let place_is = same_place k row place row' place' below below' number number' in (
              (λ _. (x, λ e. (then_desk_with k (after_claim (row_is e) (place_is e) x) v, (k, Input x) ∷ xs))),
              λ other. absurd (other one),
            ),
      ))
      (λ other.
      let miss = miss_of s.words s.views o.traced seat v me k in
      let w : View I = with_miss miss (after_refusal row place) v in (
        w,
        keeps,
        tt,
        word_stays meets s o k seat v w me (refused v miss row place empty) (trace_misses s.words s.views o.traced seat v me k w inside_words refl refl),
        λ row' place' below' number'.
            let row_is = same_row k row place row' place' below below' number number' in
            let place_is = same_place k row place row' place' below below' number number' in (
              (λ one. absurd (other one)),
              λ _. (miss, missed s o k seat v me n wide, refl, λ e. (with_miss miss (after_refusal (row_is e) (place_is e)) v, xs)),
            ),
      ))

  -- a claim outside the board finds a word below 4, and changes none
  pub strays : (n seat : ℕ) (v : View I) (xs : List (ℕ × Content I O)) (row place : ℕ) → 0 < n → v.in_hand ≡ 0
      → Allows (ObeysRule meets) n seat (v, xs) 0 (λ y. either (eqb y (4 + row)) place y)
      (Strays meets (step n 0 (4 + row) place none) (v, xs))
  strays n seat v xs row place lt empty s o wide me fits =
      exchanged (get_or s.words 0 0) (4 + row) place (λ y. (w : View I) × (a : Act (Content I O)) × Valid s.homes xs a
      × ObeysRule meets (stepped s 0 y seat xs w a)
      × Strays meets (step n 0 (4 + row) place none) (v, xs) (get_or s.words 0 0) (w, carried_after xs a))
      (λ hit. let few = (o.places 0 (omega (arith, wide, lt))).few in absurd (omega (arith, few, hit)))
      (λ other.
      let miss = miss_of s.words s.views o.traced seat v me 0 in
      let w : View I = with_miss miss (after_refusal row place) v in (
        w,
        keeps,
        tt,
        word_stays meets s o 0 seat v w me (refused v miss row place empty)
            (trace_misses s.words s.views o.traced seat v me 0 w (omega (arith, wide, lt, o.as_many)) refl refl),
        λ row' place' first second outside.
            let row_is : row ≡ row' = omega (arith, first) in
            (miss, missed s o 0 seat v me n wide, refl, λ e. (with_miss miss (after_refusal (row_is e) (second e)) v, xs)),
      ))

  -- the claimer of a place fills it
  pub finishes : (n seat : ℕ) (v : View I) (xs : List (ℕ × Content I O)) (k row place : ℕ) (x : I) (y : O) → k < n
      → v.in_hand ≡ k + 1 → place < PLACES → k ≡ number_of row place → entry_at k v.desk.claims ≡ Some x → meets x y
      → Allows (ObeysRule meets) n seat (v, (k, Output y) ∷ xs) k (λ _. 3)
      (λ _. Finishes (step n k 3 0 none) (v, (k, Output y) ∷ xs) 3)
  finishes n seat v xs k row place x y lt full below number mine fits s o wide me small =
      let was = o.claims seat v k x me mine in
      let there : k < length s.homes = omega (arith, wide, lt) in
      let inside_words : k < length s.words = omega (arith, there, o.as_many) in
      let w : View I = then_desk k (after_finish row place) v in
      let rows : SameRows v w = record { first = refl; end = refl } in
      let apart = o.apart seat v me in
      let gone : entry_at k w.desk.claims ≡ None =
      ap (λ (j : ℕ). entry_at j w.desk.claims) number ∙ entry_gone (number_of row place) v.desk.claims apart.1 in (
        w,
        gives,
        tt,
        rule_kept meets s o k seat v w 3 (some (Output y)) (o.last k) (o.claimer k) (record {
          there = there;
          sits = (o.seated k).1;
          me = me;
          rows = rows;
          hand = λ j ne e. ne (omega (arith, e, full));
          posted = λ j ne low. refl;
          claims = λ j ne. entry_stays j (number_of row place) v.desk.claims (λ is. ne (is ∙ sym number));
          apart = (apart.0, apart_without (number_of row place) v.desk.claims apart.1);
          here = stands_full meets _ k (o.last k) (o.owner k) (o.claimer k) (get_or-set_same s.words k 3 0 inside_words) x y was.2
              (set_here s.homes k (some (Output y)) there) fits;
          owned = λ i u at low high. known_still (entry_at (k - PLACES * u.desk.row) u.desk.posted)
              (get_or s.words k 0) 3 (o.last k) (λ e. omega (arith, e, was.1)) (λ e. omega (arith, e))
              (owned_still meets s o k seat v w me rows refl i u at low high);
          claimed = λ i u z at found.
              let t = claims_mine meets s o k seat v w me
              (λ i' u' z' at' ne found'. ne (sym (o.claims i' u' k z' at' found').0 ∙ was.0)) i u z at found in
              absurd (none_is_not z (sym gone ∙ t.1));
          counts_else = λ j ne. (refl, refl);
          counts_here =
              let was_claimed : one_at 1 (get_or s.words k 0) ≡ 0 = ap (one_at 1) was.1 in omega (arith, was_claimed);
          traced = trace_grows s.words s.views o.traced seat v me k 3 w inside_words refl refl (omega (arith, was.1));
        }),
        λ row' place' below' number'.
            let row_is = same_row k row place row' place' below below' number number' in
            let place_is = same_place k row place row' place' below below' number number' in
            λ e. (then_desk k (after_finish (row_is e) (place_is e)) v, xs),
      )

  -- the owner of a full place takes its result, or finds the place not full
  pub collects : (n seat : ℕ) (v : View I) (xs : List (ℕ × Content I O)) (k place : ℕ) → k < n → v.in_hand ≡ 0
      → IsOwn v k place
      → Allows (ObeysRule meets) n seat (v, xs) k (λ y. either (eqb y 3) 0 y) (Collects meets (step n k 3 0 none) (v, xs))
  collects n seat v xs k place lt empty own s o wide me fits =
      let there : k < length s.homes = omega (arith, wide, lt) in
      let inside_words : k < length s.words = omega (arith, there, o.as_many) in
      let low = from_row v k place own in
      let high = to_row v k place own in
      let was = o.owned seat v k me low high in
      let apart = o.apart seat v me in
      exchanged (get_or s.words k 0) 3 0 (λ y. (w : View I) × (a : Act (Content I O)) × Valid s.homes xs a
      × ObeysRule meets (stepped s k y seat xs w a)
      × Collects meets (step n k 3 0 none) (v, xs) (get_or s.words k 0) (w, carried_after xs a))
      (λ three.
      let full = (o.places k there).full three in
      let w : View I = then_desk_with k (after_collect place) v in
      let rows : SameRows v w = record { first = refl; end = refl } in (
        w,
        takes k (Output full.1),
        full.3,
        rule_kept meets s o k seat v w 0 none (o.last k) (o.claimer k) (record {
          there = there;
          sits = (o.seated k).1;
          me = me;
          rows = rows;
          hand = λ j ne e. omega (arith, e, empty);
          posted = λ j ne low'. entry_stays (j - PLACES * v.desk.row) place v.desk.posted
              (apart_in_row v k place j own ne low');
          claims = λ j ne. refl;
          apart = (apart_without place v.desk.posted apart.0, apart.1);
          here = stands_free meets _ k (o.last k) (o.owner k) (o.claimer k) (get_or-set_same s.words k 0 0 inside_words)
              (in_my_hand s o k seat v me 0 (o.owner k) 0 w none was.0 refl);
          owned = λ i u at low' high'.
              let mine = owner_is_me meets s o k seat v w me rows low high i u at low' high' in
              subst (λ (e : Option I). IsKnown 0 (o.last k) e)
              (sym (entry_gone place v.desk.posted apart.0)
              ∙ ap (λ (j : ℕ). entry_at j w.desk.posted) (sym (in_row v k place own))
              ∙ ap (λ (z : View I). entry_at (k - PLACES * z.desk.row) z.desk.posted) mine) refl;
          claimed = λ i u y at found.
              let t = claims_still meets s o k seat v w me refl i u y at found in absurd (omega (arith, t.1, three));
          counts_else = λ j ne. (refl, refl);
          counts_here =
              let was_full : one_at 1 (get_or s.words k 0) ≡ 0 = ap (one_at 1) three in omega (arith, was_full);
          traced = trace_grows s.words s.views o.traced seat v me k 0 w inside_words refl refl (omega (arith, three));
        }),
        λ place' number'.
            let place_is : place ≡ place' = omega (arith, own.number, number') in
            let known = known_last (entry_at (k - PLACES * v.desk.row) v.desk.posted) (get_or s.words k 0) (o.last k)
            full.0 (λ e. omega (arith, e, three)) was.1 full.2 in (
              (λ _. (
                full.0,
                full.1,
                ap (λ (j : ℕ). entry_at j v.desk.posted) (sym place_is ∙ sym (in_row v k place own)) ∙ known,
                full.4,
                ap (λ (j : ℕ). entry_at j (without j v.desk.posted)) (sym place_is)
                    ∙ entry_gone place v.desk.posted apart.0,
                λ e. (then_desk_with k (after_collect (place_is e)) v, (k, Output full.1) ∷ xs),
              )),
              λ other. absurd (other three),
            ),
      ))
      (λ other.
      let miss = miss_of s.words s.views o.traced seat v me k in
      let w : View I = with_miss miss after_empty_collect v in (
        w,
        keeps,
        tt,
        word_stays meets s o k seat v w me (found_empty v miss empty) (trace_misses s.words s.views o.traced seat v me k w inside_words refl refl),
        λ place' number'. ((λ three. absurd (other three)), λ _. (miss, missed s o k seat v me n wide, refl, refl)),
      ))
