-- The script that is read line by line is the one that the rules give.
use Rattle.std.proofs.Common.{◌≡◌, ℕ, ◌+◌, List, [], ◌∷◌, ◌++◌, length, map, filter, Bool, true, false, Option, Some, None, refl, ap, sym, ◌∙◌, arith, append_assoc, append-nil, length-append}
use Rattle.std.specs.List.{onto_first}
use Rattle.std.specs.Option.{option_or}
use Rattle.batch_script.specs.declared.fault.ScriptFault.{ScriptFault}
use Rattle.batch_script.specs.Scripts.{Line, ScriptValue, good, is_some_of, are_go, groups_of, fault_in, fault_among, calls_in, batches_in, unless_fault, script_of, lines_of}
use Rattle.batch_script.specs.Code.Reading.{closed, fault_of_call, with_call, faulty_or, script_from}

-- the value of a script, by the groups of the lines that are left: the first group goes on with the batch that is begun
abbrev value : {C : Type 0} → (List (List ℕ) → Option C) → ℕ → List (List C) → List C → List Line → List (List Line) → ScriptValue C
value call_of number done begun group groups =
    unless_fault (option_or (fault_in call_of number (length begun) group) (fault_among call_of (number + length group) groups))
    (done ++ filter (λ batch. is_some_of batch) ((begun ++ calls_in call_of group) ∷ map (λ g. calls_in call_of g) groups))

abbrev value_of : {C : Type 0} → (List (List ℕ) → Option C) → ℕ → List (List C) → List C → List (List Line) → ScriptValue C
value_of call_of number done begun [] = value call_of number done begun [] []
value_of call_of number done begun (group ∷ groups) = value call_of number done begun group groups

-- the end of a batch
closing : {C : Type 0} (done : List (List C)) (begun : List C) (rest : List (List C))
    → done ++ filter (λ batch. is_some_of batch) (begun ∷ rest) ≡ closed done begun ++ filter (λ batch. is_some_of batch) rest
closing done [] rest = refl
closing done (call ∷ begun) rest = sym (append_assoc done ((call ∷ begun) ∷ []) (filter (λ batch. is_some_of batch) rest))

ended : {C : Type 0} (call_of : List (List ℕ) → Option C) (number : ℕ) (done : List (List C)) (begun : List C)
    → good (closed done begun) ≡ value call_of number done begun [] []
ended call_of number done begun = rw (append-nil begun) (ap good (sym (closing done begun [] ∙ append-nil (closed done begun))))

went : {C : Type 0} (call_of : List (List ℕ) → Option C) (number : ℕ) (done : List (List C)) (begun : List C) (groups : List (List Line))
    → value_of call_of number (closed done begun) [] groups ≡ value call_of number done begun [] groups
went call_of number done begun [] = ap good (append-nil (closed done begun)) ∙ ended call_of number done begun
went call_of number done begun (group ∷ groups) =
    let none : number + 0 ≡ number = omega arith in
    rw (append-nil begun, none) (ap (λ batches. unless_fault (option_or (fault_in call_of number 0 group) (fault_among call_of (number + length group) groups)) batches) (sym (closing done begun (map (λ g. calls_in call_of g) (group ∷ groups)))))

-- the fault of a line comes before those of later lines
decided : {C : Type 0} (fault in_batch later : Option ScriptFault) (batches : List (List C)) (rest : ScriptValue C)
    → rest ≡ unless_fault (option_or in_batch later) batches
    → faulty_or fault rest ≡ unless_fault (option_or (option_or fault in_batch) later) batches
decided (Some fault) in_batch later batches rest is = refl
decided None in_batch later batches rest is = is

called : {C : Type 0} (call_of : List (List ℕ) → Option C) (number : ℕ) (done : List (List C)) (begun : List C) (line : Line) (groups : List (List Line))
    → faulty_or (fault_of_call (call_of line.words) number (length begun) line.number) (value_of call_of (number + 1) done (with_call begun (call_of line.words)) groups)
    ≡ value_of call_of number done begun (onto_first line groups)
called {C} call_of number done begun line groups = step (call_of line.words) refl groups where
  more : (call : C) (group : List Line) (groups : List (List Line)) → call_of line.words ≡ Some call
      → value call_of (number + 1) done (begun ++ call ∷ []) group groups
      ≡ unless_fault (option_or (fault_in call_of (number + 1) (length begun + 1) group) (fault_among call_of (number + length (line ∷ group)) groups))
      (done ++ filter (λ batch. is_some_of batch) ((begun ++ calls_in call_of (line ∷ group)) ∷ map (λ g. calls_in call_of g) groups))
  more call group groups is =
      let place : length (begun ++ call ∷ []) ≡ length begun + 1 = length-append begun (call ∷ []) in
      let count : number + 1 + length group ≡ number + length (line ∷ group) = omega arith in
      rw (is, append_assoc begun (call ∷ []) (calls_in call_of group), place, count) refl

  step : (said : Option C) → call_of line.words ≡ said → (groups : List (List Line))
      → faulty_or (fault_of_call said number (length begun) line.number) (value_of call_of (number + 1) done (with_call begun said) groups)
      ≡ value_of call_of number done begun (onto_first line groups)
  step None is [] = rw is refl
  step None is (group ∷ groups) = rw is refl
  step (Some call) is [] =
      let e = decided (fault_of_call (Some call) number (length begun) line.number) (fault_in call_of (number + 1) (length begun + 1) []) (fault_among call_of (number + length (line ∷ [])) []) _ _ (more call [] [] is) in
      rw is (rw is at e)
  step (Some call) is (group ∷ groups) =
      let e = decided (fault_of_call (Some call) number (length begun) line.number) (fault_in call_of (number + 1) (length begun + 1) group) (fault_among call_of (number + length (line ∷ group)) groups) _ _ (more call group groups is) in
      rw is (rw is at e)

pub reading : {C : Type 0} (call_of : List (List ℕ) → Option C) (number : ℕ) (done : List (List C)) (begun : List C) (lines : List Line)
    → script_from call_of number done begun lines ≡ value_of call_of number done begun (groups_of lines)
reading call_of number done begun [] = ended call_of number done begun
reading {C} call_of number done begun (line ∷ lines) =
    step (is_some_of line.words) (are_go line.words) refl refl (reading call_of number done begun lines) (reading call_of number (closed done begun) [] lines) (reading call_of (number + 1) done (with_call begun (call_of line.words)) lines) where
      step : (some go : Bool) → is_some_of line.words ≡ some → are_go line.words ≡ go
          → script_from call_of number done begun lines ≡ value_of call_of number done begun (groups_of lines)
          → script_from call_of number (closed done begun) [] lines ≡ value_of call_of number (closed done begun) [] (groups_of lines)
          → script_from call_of (number + 1) done (with_call begun (call_of line.words)) lines ≡ value_of call_of (number + 1) done (with_call begun (call_of line.words)) (groups_of lines)
          → script_from call_of number done begun (line ∷ lines) ≡ value_of call_of number done begun (groups_of (line ∷ lines))
      step false go empty is skipped ended called = rw empty skipped
      step true true some is skipped went_on on = rw (some, is) (went_on ∙ went call_of number done begun (groups_of lines))
      step true false some is skipped went_on on =
          rw (some, is) (ap (λ rest. faulty_or (fault_of_call (call_of line.words) number (length begun) line.number) rest) on ∙ called call_of number done begun line (groups_of lines))

-- a text is read from its first line on
pub read_whole : {C : Type 0} (call_of : List (List ℕ) → Option C) (bytes : List ℕ)
    → script_from call_of 0 [] [] (lines_of bytes) ≡ script_of call_of bytes
read_whole call_of bytes = reading call_of 0 [] [] (lines_of bytes) ∙ first (groups_of (lines_of bytes)) where
  first : (groups : List (List Line)) → value_of call_of 0 [] [] groups ≡ unless_fault (fault_among call_of 0 groups) (batches_in call_of groups)
  first [] = refl
  first (group ∷ groups) = refl
