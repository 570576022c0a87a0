-- The ticks, as a leaf starts or ends.
use Rattle.std.proofs.Common.{ℕ, ◌≡◌, ◌≢◌, ◌<◌, ◌+◌, true, Option, Some, None, arith, refl, sym, ◌∙◌}
use Rattle.std.proofs.lemmas.Bool.Decides.{nat_tests}
use Rattle.core_model.proofs.Words.{Nodes, IsUnder, Progress, Waiting, Done, Ran, Task, put, is_done}
use Rattle.sp_order.specs.Plans.{itself, one_below}
use Rattle.core_model.proofs.Inductive.Nodes.{InductiveNodes}
use Rattle.core_model.proofs.Inductive.Ticks.{Stamp, stamp, stamps, StartOf, EndOf, RanBefore, ComesBefore, InductiveTicks}

-- what is under a done node is done
pub under_done : {plan : Nodes} {a n : ℕ} (node : ℕ → Progress) → InductiveNodes plan node → IsUnder plan a n → is_done (node a) ≡ true → is_done (node n) ≡ true
under_done node h itself d = d
under_done node h (one_below {top = a} {parent = p} {node = n} u side) d = h.below_done p n side (under_done node h u d)

-- what is above a node that is taken or done is neither waiting nor ready
pub above_taken : {plan : Nodes} {a n : ℕ} (node : ℕ → Progress) → InductiveNodes plan node → IsUnder plan a n → node n ≢ Waiting → node a ≢ Waiting
above_taken node h itself d = d
above_taken node h (one_below {top = a} {parent = p} {node = n} u side) d = above_taken node h u (λ w. d (h.below_waiting p n side w))

-- a leaf that isn't waiting has all leaves before it done
pub before_done : (plan : Nodes) (node : ℕ → Progress) (n m : ℕ) → InductiveNodes plan node → ComesBefore plan n m → node m ≢ Waiting → is_done (node n) ≡ true
before_done plan node n m h b m_there =
    under_done node h b.2.under_left (grind (arith, above_taken node h b.2.under_right m_there, h.second b.2.parent b.2.left b.2.right b.2.series))

-- a done leaf has run before the tick, if each that has run has
ran_by : (x : Progress) (tick : ℕ) → is_done x ≡ true → x ≢ Done → ((w s e : ℕ) → x ≡ Ran w s e → e < tick) → RanBefore x tick
ran_by (Ran w s e) tick d n f = f w s e refl
ran_by Done tick d n f = n refl
ran_by _ tick d n f = cc

-- a leaf before one that isn't waiting has run, and its end was drawn
pub before_ran : (plan : Nodes) (workers : ℕ) (node : ℕ → Progress) (tick : ℕ) (task : ℕ → Task) (holder : ℕ → Option ℕ) (n m : ℕ)
    → InductiveNodes plan node → InductiveTicks plan workers node tick (stamps node task holder) → ComesBefore plan n m → node m ≢ Waiting
    → RanBefore (node n) tick
before_ran plan workers node tick task holder n m h ticks b there =
    let done : is_done (node n) ≡ true = before_done plan node n m h b there in
    ran_by (node n) tick done (h.leaf_ran n b.0 b.1)
    (λ v s e ran. (ticks.end_drawn n v s e (rw ran refl)).1)

-- start: the leaf n of worker w draws the tick
pub start_ticks : (plan : Nodes) (workers : ℕ) (node : ℕ → Progress) (tick : ℕ) (old : ℕ → Option Stamp) (w n : ℕ)
    → InductiveTicks plan workers node tick old → w < workers → old n ≡ None
    → ((m s : ℕ) (e : Option ℕ) → old m ≡ Some (stamp w s e) → e ≢ None)
    → ((m : ℕ) → ComesBefore plan m n → RanBefore (node m) tick)
    → ((m : ℕ) → ComesBefore plan n m → old m ≡ None)
    → ((m : ℕ) → ComesBefore plan m n → m ≢ n)
    → InductiveTicks plan workers node (tick + 1) (put old n (Some (stamp w tick None)))
start_ticks plan workers node tick old w n h fits fresh ended before after apart = record {
  draw = put h.draw tick (StartOf n);
  start_drawn = λ m v s e k. grind (arith, nat_tests, h.start_drawn m v s e);
  end_drawn = λ m v s e k. grind (arith, nat_tests, h.end_drawn m v s e);
  start_at = λ t m l k. grind (arith, nat_tests, h.start_at t m);
  end_at = λ t m l k. grind (arith, nat_tests, h.end_at t m);
  workers_below = λ m v s e k. grind (arith, nat_tests, h.workers_below m v s e);
  in_order = λ m k v s e b i. grind (arith, nat_tests, h.in_order m k v s e b, before m, after k);
  one_at_once = λ m k v s t d e i j l. grind (arith, nat_tests, h.one_at_once m k v s t d e, ended m s d, h.start_drawn m v s d, h.start_drawn k v t e, h.end_drawn m v s);
}

-- end: the leaf n of worker w draws the tick
pub end_ticks : (plan : Nodes) (workers : ℕ) (node : ℕ → Progress) (tick : ℕ) (old : ℕ → Option Stamp) (w n s : ℕ)
    → InductiveTicks plan workers node tick old → old n ≡ Some (stamp w s None)
    → InductiveTicks plan workers node (tick + 1) (put old n (Some (stamp w s (Some tick))))
end_ticks plan workers node tick old w n s h was = record {
  draw = put h.draw tick (EndOf n);
  start_drawn = λ m v t e k. grind (arith, nat_tests, h.start_drawn m v t e, h.start_drawn n w s None was);
  end_drawn = λ m v t e k. grind (arith, nat_tests, h.end_drawn m v t e, h.start_drawn n w s None was);
  start_at = λ t m l k. grind (arith, nat_tests, h.start_at t m);
  end_at = λ t m l k. grind (arith, nat_tests, h.end_at t m);
  workers_below = λ m v t e k. grind (arith, nat_tests, h.workers_below m v t e, h.workers_below n w s None was);
  in_order = λ m k v t e b i. grind (arith, nat_tests, h.in_order m k v t e b, h.in_order m k w s None b);
  one_at_once = λ m k v t x d e i j l. grind (arith, nat_tests, h.one_at_once m k v t x d e, h.one_at_once m k v t x d None, h.one_at_once m k v t x None e, h.start_drawn m v t d, h.start_drawn k v x e, h.end_drawn m v t);
}

-- the same stamps, where no leaf that has run is another
pub same_ticks : (plan : Nodes) (workers : ℕ) (node newer : ℕ → Progress) (tick : ℕ) (old new : ℕ → Option Stamp)
    → InductiveTicks plan workers node tick old → ((n : ℕ) → new n ≡ old n)
    → ((n w s e : ℕ) → node n ≡ Ran w s e → newer n ≡ Ran w s e)
    → InductiveTicks plan workers newer tick new
same_ticks plan workers node newer tick old new h same ran = record {
  draw = h.draw;
  start_drawn = λ m v s e k. h.start_drawn m v s e (sym (same m) ∙ k);
  end_drawn = λ m v s e k. h.end_drawn m v s e (sym (same m) ∙ k);
  start_at = λ t m l k. grind (arith, h.start_at t m l k, same m);
  end_at = λ t m l k. grind (arith, h.end_at t m l k, same m);
  workers_below = λ m v s e k. h.workers_below m v s e (sym (same m) ∙ k);
  in_order = λ m k v s e b i. grind (arith, h.in_order m k v s e b (sym (same k) ∙ i), ran m);
  one_at_once = λ m k v s t d e i j l. h.one_at_once m k v s t d e (sym (same m) ∙ i) (sym (same k) ∙ j) l;
}
