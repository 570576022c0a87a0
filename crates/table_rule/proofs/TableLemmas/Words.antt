-- How the words change when one part of the state that they encode changes.
use Rattle.std.proofs.Common.{ℕ, ◌≡◌, ◌<◌, Option, Some, List, get_or, set, arith, refl, sym, ◌∙◌, subst, inl, inr, length-set, get_or-set_other, get_or-set_same}
use Rattle.limits.specs.declared.TheConstants.{MOST_WORKERS}
use Rattle.table_rule.specs.declared.progress.TheConstants.{TICKS}
use Rattle.std.proofs.lemmas.Bool.{cases_eq}
use Rattle.core_model.specs.declared.progress.Progress.{Progress}
use Rattle.core_model.specs.declared.progress.Progress.TheVariants.{Ran}
use Rattle.core_model.specs.declared.status.Status.{Status}
use Rattle.core_model.specs.State.{put, Hold}
use Rattle.table_rule.specs.Words.{flag_at, count_at, tick_at, stop_at, node_at, mark_at, value_at, progress_code, worker_in, start_in, end_in, status_code, flag_code, HasValue, WordsShow}
use Rattle.core_model.proofs.InvariantLemmas.Puts.{put_at, put_other}

-- the parts of the word of a leaf that has run
pub worker_of : (w s e : ℕ) → w < MOST_WORKERS → worker_in (progress_code (Ran w s e)) ≡ w
worker_of w s e low = omega arith

pub start_of : (w s e : ℕ) → w < MOST_WORKERS → s < TICKS → start_in (progress_code (Ran w s e)) ≡ s
start_of w s e low low' = omega arith

pub end_of : (w s e : ℕ) → w < MOST_WORKERS → s < TICKS → end_in (progress_code (Ran w s e)) ≡ e
end_of w s e low low' = omega arith

pub value_word : (v : Option ℕ) (a b : ℕ) → a ≡ b → HasValue v b → HasValue v a
value_word v a b e h = rw e h

module _ (P N : ℕ) (ws : List ℕ) (node : ℕ → Progress) (mark : ℕ → ℕ) (value : ℕ → Option ℕ) (status : ℕ → Status) (hold : Option Hold) (tick count : ℕ) (h : WordsShow P N ws node mark value status hold tick count) where
  pub set_node : (n : ℕ) (x : Progress) → n < N → WordsShow P N (set ws (node_at P n) (progress_code x)) (put node n x) mark value status hold tick count
  set_node n x below = record {
    wide = length-set ws (node_at P n) (progress_code x) ∙ h.wide;
    statuses = λ w b. get_or-set_other ws (node_at P n) (w) (progress_code x) 0 (λ e. omega arith) ∙ h.statuses w b;
    flag = get_or-set_other ws (node_at P n) (flag_at P) (progress_code x) 0 (λ e. omega arith) ∙ h.flag;
    batches = get_or-set_other ws (node_at P n) (count_at P) (progress_code x) 0 (λ e. omega arith) ∙ h.batches;
    ticks = get_or-set_other ws (node_at P n) (tick_at P) (progress_code x) 0 (λ e. omega arith) ∙ h.ticks;
    progress = λ m b. elim (cases_eq m n) [
      | inl e ↦ rw (e, put_at node n n (x) refl) (get_or-set_same ws (node_at P n) (progress_code x) 0 (omega (arith, h.wide)))
      | inr e ↦ rw (put_other node n m (x) e) (get_or-set_other ws (node_at P n) (node_at P m) (progress_code x) 0 (λ is. omega arith) ∙ h.progress m b)
    ];
    marks = λ m b. get_or-set_other ws (node_at P n) (mark_at P N m) (progress_code x) 0 (λ e. omega arith) ∙ h.marks m b;
    values = λ m b. subst (HasValue (value m)) (sym (get_or-set_other ws (node_at P n) (value_at P N m) (progress_code x) 0 (λ e. omega arith))) (h.values m b);
  }

  pub set_mark : (n : ℕ) (x : ℕ) → n < N → WordsShow P N (set ws (mark_at P N n) (x)) node (put mark n x) value status hold tick count
  set_mark n x below = record {
    wide = length-set ws (mark_at P N n) (x) ∙ h.wide;
    statuses = λ w b. get_or-set_other ws (mark_at P N n) (w) (x) 0 (λ e. omega arith) ∙ h.statuses w b;
    flag = get_or-set_other ws (mark_at P N n) (flag_at P) (x) 0 (λ e. omega arith) ∙ h.flag;
    batches = get_or-set_other ws (mark_at P N n) (count_at P) (x) 0 (λ e. omega arith) ∙ h.batches;
    ticks = get_or-set_other ws (mark_at P N n) (tick_at P) (x) 0 (λ e. omega arith) ∙ h.ticks;
    progress = λ m b. get_or-set_other ws (mark_at P N n) (node_at P m) (x) 0 (λ e. omega arith) ∙ h.progress m b;
    marks = λ m b. elim (cases_eq m n) [
      | inl e ↦ rw (e, put_at mark n n (x) refl) (get_or-set_same ws (mark_at P N n) (x) 0 (omega (arith, h.wide)))
      | inr e ↦ rw (put_other mark n m (x) e) (get_or-set_other ws (mark_at P N n) (mark_at P N m) (x) 0 (λ is. omega arith) ∙ h.marks m b)
    ];
    values = λ m b. subst (HasValue (value m)) (sym (get_or-set_other ws (mark_at P N n) (value_at P N m) (x) 0 (λ e. omega arith))) (h.values m b);
  }

  pub set_value : (n : ℕ) (x : ℕ) → n < N → WordsShow P N (set ws (value_at P N n) (x)) node mark (put value n (Some x)) status hold tick count
  set_value n x below = record {
    wide = length-set ws (value_at P N n) (x) ∙ h.wide;
    statuses = λ w b. get_or-set_other ws (value_at P N n) (w) (x) 0 (λ e. omega arith) ∙ h.statuses w b;
    flag = get_or-set_other ws (value_at P N n) (flag_at P) (x) 0 (λ e. omega arith) ∙ h.flag;
    batches = get_or-set_other ws (value_at P N n) (count_at P) (x) 0 (λ e. omega arith) ∙ h.batches;
    ticks = get_or-set_other ws (value_at P N n) (tick_at P) (x) 0 (λ e. omega arith) ∙ h.ticks;
    progress = λ m b. get_or-set_other ws (value_at P N n) (node_at P m) (x) 0 (λ e. omega arith) ∙ h.progress m b;
    marks = λ m b. get_or-set_other ws (value_at P N n) (mark_at P N m) (x) 0 (λ e. omega arith) ∙ h.marks m b;
    values = λ m b. elim (cases_eq m n) [
      | inl e ↦ rw (e, put_at value n n (Some x) refl) (get_or-set_same ws (value_at P N n) x 0 (omega (arith, h.wide)))
      | inr e ↦ rw (put_other value n m (Some x) e) (value_word (value m) (get_or (set ws (value_at P N n) x) (value_at P N m) 0) (get_or ws (value_at P N m) 0) (get_or-set_other ws (value_at P N n) (value_at P N m) x 0 (λ is. omega arith)) (h.values m b))
    ];
  }

  pub set_status : (n : ℕ) (x : Status) → n < P → WordsShow P N (set ws (n) (status_code x)) node mark value (put status n x) hold tick count
  set_status n x below = record {
    wide = length-set ws (n) (status_code x) ∙ h.wide;
    statuses = λ m b. elim (cases_eq m n) [
      | inl e ↦ rw (e, put_at status n n (x) refl) (get_or-set_same ws (n) (status_code x) 0 (omega (arith, h.wide)))
      | inr e ↦ rw (put_other status n m (x) e) (get_or-set_other ws (n) (m) (status_code x) 0 (λ is. omega arith) ∙ h.statuses m b)
    ];
    flag = get_or-set_other ws (n) (flag_at P) (status_code x) 0 (λ e. omega arith) ∙ h.flag;
    batches = get_or-set_other ws (n) (count_at P) (status_code x) 0 (λ e. omega arith) ∙ h.batches;
    ticks = get_or-set_other ws (n) (tick_at P) (status_code x) 0 (λ e. omega arith) ∙ h.ticks;
    progress = λ m b. get_or-set_other ws (n) (node_at P m) (status_code x) 0 (λ e. omega arith) ∙ h.progress m b;
    marks = λ m b. get_or-set_other ws (n) (mark_at P N m) (status_code x) 0 (λ e. omega arith) ∙ h.marks m b;
    values = λ m b. subst (HasValue (value m)) (sym (get_or-set_other ws (n) (value_at P N m) (status_code x) 0 (λ e. omega arith))) (h.values m b);
  }

  pub set_tick : (x : ℕ) → WordsShow P N (set ws (tick_at P) (x)) node mark value status hold x count
  set_tick x = record {
    wide = length-set ws (tick_at P) (x) ∙ h.wide;
    statuses = λ w b. get_or-set_other ws (tick_at P) (w) (x) 0 (λ e. omega arith) ∙ h.statuses w b;
    flag = get_or-set_other ws (tick_at P) (flag_at P) (x) 0 (λ e. omega arith) ∙ h.flag;
    batches = get_or-set_other ws (tick_at P) (count_at P) (x) 0 (λ e. omega arith) ∙ h.batches;
    ticks = get_or-set_same ws (tick_at P) (x) 0 (omega (arith, h.wide));
    progress = λ m b. get_or-set_other ws (tick_at P) (node_at P m) (x) 0 (λ e. omega arith) ∙ h.progress m b;
    marks = λ m b. get_or-set_other ws (tick_at P) (mark_at P N m) (x) 0 (λ e. omega arith) ∙ h.marks m b;
    values = λ m b. subst (HasValue (value m)) (sym (get_or-set_other ws (tick_at P) (value_at P N m) (x) 0 (λ e. omega arith))) (h.values m b);
  }

  pub set_flag : (x : Option Hold) → WordsShow P N (set ws (flag_at P) (flag_code x)) node mark value status x tick count
  set_flag x = record {
    wide = length-set ws (flag_at P) (flag_code x) ∙ h.wide;
    statuses = λ w b. get_or-set_other ws (flag_at P) (w) (flag_code x) 0 (λ e. omega arith) ∙ h.statuses w b;
    flag = get_or-set_same ws (flag_at P) (flag_code x) 0 (omega (arith, h.wide));
    batches = get_or-set_other ws (flag_at P) (count_at P) (flag_code x) 0 (λ e. omega arith) ∙ h.batches;
    ticks = get_or-set_other ws (flag_at P) (tick_at P) (flag_code x) 0 (λ e. omega arith) ∙ h.ticks;
    progress = λ m b. get_or-set_other ws (flag_at P) (node_at P m) (flag_code x) 0 (λ e. omega arith) ∙ h.progress m b;
    marks = λ m b. get_or-set_other ws (flag_at P) (mark_at P N m) (flag_code x) 0 (λ e. omega arith) ∙ h.marks m b;
    values = λ m b. subst (HasValue (value m)) (sym (get_or-set_other ws (flag_at P) (value_at P N m) (flag_code x) 0 (λ e. omega arith))) (h.values m b);
  }

  pub set_count : (x : ℕ) → WordsShow P N (set ws (count_at P) (x)) node mark value status hold tick x
  set_count x = record {
    wide = length-set ws (count_at P) (x) ∙ h.wide;
    statuses = λ w b. get_or-set_other ws (count_at P) (w) (x) 0 (λ e. omega arith) ∙ h.statuses w b;
    flag = get_or-set_other ws (count_at P) (flag_at P) (x) 0 (λ e. omega arith) ∙ h.flag;
    batches = get_or-set_same ws (count_at P) (x) 0 (omega (arith, h.wide));
    ticks = get_or-set_other ws (count_at P) (tick_at P) (x) 0 (λ e. omega arith) ∙ h.ticks;
    progress = λ m b. get_or-set_other ws (count_at P) (node_at P m) (x) 0 (λ e. omega arith) ∙ h.progress m b;
    marks = λ m b. get_or-set_other ws (count_at P) (mark_at P N m) (x) 0 (λ e. omega arith) ∙ h.marks m b;
    values = λ m b. subst (HasValue (value m)) (sym (get_or-set_other ws (count_at P) (value_at P N m) (x) 0 (λ e. omega arith))) (h.values m b);
  }

  pub set_stop : (x : ℕ) → WordsShow P N (set ws (stop_at P) (x)) node mark value status hold tick count
  set_stop x = record {
    wide = length-set ws (stop_at P) (x) ∙ h.wide;
    statuses = λ w b. get_or-set_other ws (stop_at P) (w) (x) 0 (λ e. omega arith) ∙ h.statuses w b;
    flag = get_or-set_other ws (stop_at P) (flag_at P) (x) 0 (λ e. omega arith) ∙ h.flag;
    batches = get_or-set_other ws (stop_at P) (count_at P) (x) 0 (λ e. omega arith) ∙ h.batches;
    ticks = get_or-set_other ws (stop_at P) (tick_at P) (x) 0 (λ e. omega arith) ∙ h.ticks;
    progress = λ m b. get_or-set_other ws (stop_at P) (node_at P m) (x) 0 (λ e. omega arith) ∙ h.progress m b;
    marks = λ m b. get_or-set_other ws (stop_at P) (mark_at P N m) (x) 0 (λ e. omega arith) ∙ h.marks m b;
    values = λ m b. subst (HasValue (value m)) (sym (get_or-set_other ws (stop_at P) (value_at P N m) (x) 0 (λ e. omega arith))) (h.values m b);
  }

-- the flag's word depends on the holder's number only
pub flag_same : (P N : ℕ) (ws : List ℕ) (node : ℕ → Progress) (mark : ℕ → ℕ) (value : ℕ → Option ℕ) (status : ℕ → Status) (hold hold' : Option Hold) (tick count : ℕ) → flag_code hold ≡ flag_code hold' → WordsShow P N ws node mark value status hold tick count → WordsShow P N ws node mark value status hold' tick count
flag_same P N ws node mark value status hold hold' tick count e h = record { wide = h.wide; statuses = h.statuses; flag = h.flag ∙ e; batches = h.batches; ticks = h.ticks; progress = h.progress; marks = h.marks; values = h.values }
