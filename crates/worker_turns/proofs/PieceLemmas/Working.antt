-- What a worker does at its desk while it waits, one thing after another.
use Rattle.std.proofs.Common.{◌≡◌, ℕ, ◌+◌, None, List, [], ◌∷◌, ◌++◌, length, drop, sym, refl, ap, ◌∙◌, subst, inl, inr, arith, append_assoc, append-nil, length-append, map}
use Rattle.std.proofs.lemmas.List.{drop-drop, map-append}
use Rattle.seq_objects.specs.Orders.{StrictlyAscends}
use Rattle.piece_board.specs.Entries.{entry_at}
use Rattle.piece_board.specs.Desks.{after_refusal, after_empty_collect, after_post, posted_at}
use Rattle.worker_turns.proofs.PieceLemmas.Posting.{next_free}
use Rattle.launch_batch.specs.declared.piece.PieceIn.{PieceIn}
use Rattle.worker_turns.specs.declared.attempts.PieceAttempt.{PieceAttempt}
use Rattle.worker_turns.specs.declared.attempts.PieceAttempt.TheVariants.{Ran, Stale, Empty}
use Rattle.launch_batch.specs.Pieces.{place_of}
use Rattle.worker_crew.specs.Workers.{WorkerView}
use Rattle.worker_turns.specs.Pieces.{IsOwnPiece, IsOtherPiece, Desk, with_place, after_posts, after_run, desk_after, after_works, DrainsRow}

-- the desk after so much, where some of it is said in another way
after_is : (d e : Desk) (collected more finished : ℕ) (posted : List (ℕ × PieceIn)) (given refused : List (ℕ × ℕ)) (empty : ℕ)
    → posted ≡ drop collected d.posted → more ≡ d.collects + collected → finished ≡ d.finishes + length given
    → (given_now refused_now : List (ℕ × ℕ)) → given_now ≡ d.given ++ given → refused_now ≡ d.refused ++ refused
    → e ≡ record d { posted = posted; collects = more; finishes = finished; given = given_now; refused = refused_now; empty_collects = empty }
    → e ≡ after_works collected given refused empty d
after_is d e collected more finished posted given refused empty p c f given_now refused_now g r is =
    is ∙ (λ i. record d { posted = p i; collects = c i; finishes = f i; given = g i; refused = r i; empty_collects = empty })

pub works_none : (d : Desk) → DrainsRow 0 d d
works_none d = record {
  given = [];
  refused = [];
  is = after_is d d 0 d.collects d.finishes d.posted [] [] d.empty_collects refl (omega arith) (omega arith) d.given d.refused (sym (append-nil _)) (sym (append-nil _)) refl;
}

-- one try after
pub works_tried : (t : PieceAttempt) (d e : Desk) → e ≡ desk_after t d → DrainsRow 0 d e
works_tried (Ran s) d e is = record {
  given = (s.row, s.place) ∷ [];
  refused = [];
  is = after_is d e 0 d.collects (d.finishes + 1) d.posted _ [] e.empty_collects refl (omega arith) (omega arith) (d.given ++ (s.row, s.place) ∷ []) d.refused refl (sym (append-nil _))
      (is ∙ ap (λ (n : ℕ). record (after_run s d) { empty_collects = n }) (sym (ap (λ (q : Desk). q.empty_collects) is)));
}
works_tried (Stale s) d e is = record {
  given = [];
  refused = (s.row, s.place) ∷ [];
  is = after_is d e 0 d.collects d.finishes d.posted [] _ e.empty_collects refl (omega arith) (omega arith) d.given (d.refused ++ (s.row, s.place) ∷ []) (sym (append-nil _)) refl
      (is ∙ ap (λ (n : ℕ). record (after_refusal s.row s.place d) { empty_collects = n }) (sym (ap (λ (q : Desk). q.empty_collects) is)));
}
works_tried Empty d e is = subst (λ (q : Desk). DrainsRow 0 d q) (sym is) (works_none d)

-- a look at a place that is not full
pub works_empty : (d e : Desk) → e ≡ after_empty_collect d → DrainsRow 0 d e
works_empty d e is = record {
  given = [];
  refused = [];
  is = after_is d e 0 d.collects d.finishes d.posted [] [] e.empty_collects refl (omega arith) (omega arith) d.given d.refused (sym (append-nil _)) (sym (append-nil _))
      (is ∙ ap (λ (n : ℕ). record d { empty_collects = n }) (sym (ap (λ (q : Desk). q.empty_collects) is)));
}

pub works_then : (m n : ℕ) (a b c : Desk) → DrainsRow m a b → DrainsRow n b c → DrainsRow (m + n) a c
works_then m n a b c v w = record {
  given = v.given ++ w.given;
  refused = v.refused ++ w.refused;
  is = after_is a c (m + n) (a.collects + m + n) (a.finishes + length v.given + length w.given) (drop n (drop m a.posted)) _ _ c.empty_collects
      (drop-drop n m a.posted ∙ ap (λ (j : ℕ). drop j a.posted) (omega arith)) (omega arith)
      (let l = length-append v.given w.given in omega (arith, l))
      ((a.given ++ v.given) ++ w.given) ((a.refused ++ v.refused) ++ w.refused)
      (append_assoc a.given v.given w.given) (append_assoc a.refused v.refused w.refused)
      (w.is ∙ ap (after_works n w.given w.refused c.empty_collects) v.is);
}

pub works_more : (m n : ℕ) (a b c : Desk) → DrainsRow m a b → DrainsRow n b c → (k : ℕ) → k ≡ m + n → DrainsRow k a c
works_more m n a b c v w k is = subst (λ (j : ℕ). DrainsRow j a c) (sym is) (works_then m n a b c v w)

-- one more piece is posted
pub posted_more : (d e f : Desk) (front : List PieceIn) (n : ℕ) (x : PieceIn) → n ≡ place_of x
    → e ≡ after_posts front d → f ≡ after_post n x e → f ≡ after_posts (front ++ x ∷ []) d
posted_more d e f front n x is was now =
    now ∙ ap (after_post n x) was ∙ ap (λ (m : ℕ). after_post m x (after_posts front d)) is
    ∙ (λ i. record d {
      posted = sym (map-append with_place front (x ∷ [])) i;
      posts = (append_assoc d.posts (map place_of front) (place_of x ∷ []) ∙ ap (λ l. d.posts ++ l) (sym (map-append place_of front (x ∷ [])))) i;
    })

-- the own deque of pieces was tried once
pub own_works : (t : PieceAttempt) (a b : WorkerView) → IsOwnPiece t a b → DrainsRow 0 a.desk b.desk
own_works t a b path = works_tried t a.desk b.desk (ap (λ (m : WorkerView). m.desk) path.same)

pub own_core : (t : PieceAttempt) (a b : WorkerView) → IsOwnPiece t a b → b.core ≡ a.core
own_core t a b path = ap (λ (m : WorkerView). m.core) path.same

-- another's was tried once, if there is one
pub other_works : (t : PieceAttempt) (a b : WorkerView) → IsOtherPiece t a b → DrainsRow 0 a.desk b.desk
other_works t a b (inl alone) = subst (λ (m : WorkerView). DrainsRow 0 a.desk m.desk) (sym alone.2) (works_none a.desk)
other_works t a b (inr stolen) = works_tried t a.desk b.desk (ap (λ (m : WorkerView). m.desk) stolen.same)

pub other_core : (t : PieceAttempt) (a b : WorkerView) → IsOtherPiece t a b → b.core ≡ a.core
other_core t a b (inl alone) = ap (λ (m : WorkerView). m.core) alone.2
other_core t a b (inr stolen) = ap (λ (m : WorkerView). m.core) stolen.same

-- the next place is free
pub free_next : (d e : Desk) (front rest : List PieceIn) (n : ℕ) (x : PieceIn) → StrictlyAscends (map place_of (front ++ x ∷ rest)) → n ≡ place_of x
    → e ≡ after_posts front d → posted_at n e ≡ None
free_next d e front rest n x up is was =
    ap (λ (q : Desk). posted_at n q) was ∙ ap (λ (m : ℕ). entry_at m (map with_place front)) is ∙ next_free place_of front rest x up
