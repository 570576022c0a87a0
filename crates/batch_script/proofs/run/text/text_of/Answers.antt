use Rattle.std.proofs.Common.{◌≡◌, ℕ, zero, suc, ◌+◌, List, [], ◌∷◌, ◌++◌, ◌∙◌, drop, slice_get, Some, append_assoc, string_bytes, add-one, refl}
use Rattle.batch_script.specs.Texts.{batches_text}
use Rattle.batch_script.proofs.run.text.text_of.Goals as goal

drop_get : {X : Type 0} (xs : List X) (n : ℕ) (x : X) → slice_get xs n ≡ Some x → drop n xs ≡ x ∷ drop (n + 1) xs
drop_get [] n x is = absurd (cc)
drop_get (y ∷ xs) zero x is = let e : y ≡ x = cc in rw e refl
drop_get (y ∷ xs) (suc n) x is = rw add-one (let rest = drop_get xs n x is in rw add-one at rest)

-- one more batch
more : {S C : Type 0} (lines : ℕ → S → List C → List ℕ) (after : S → List C → S) (number : ℕ) (state : S) (calls : List C) (script : List (List C)) (before new whole : List ℕ) (next : S)
    → slice_get script number ≡ Some calls → next ≡ after state calls → new ≡ before ++ lines number state calls
    → before ++ batches_text lines after number state (drop number script) ≡ whole
    → new ++ batches_text lines after (number + 1) next (drop (number + 1) script) ≡ whole
more lines after number state calls script before new whole next here is text so_far =
    let front = drop_get script number calls here in
    let told = rw front at so_far in
    rw (is, text) (append_assoc before (lines number state calls) (batches_text lines after (number + 1) (after state calls) (drop (number + 1) script)) ∙ told)

pub loop-b-preserved : goal.loop-b-preserved
loop-b-preserved g c =
    more g.T.Serves.lines g.T.Serves.after c.loop-b.b (g.T.Serves.state c.loop-b.object) c.batch.result.now c.args.script.now (string_bytes c.loop-b.text) (string_bytes c.serve.new.text) _ (g.T.Serves.state c.in_ok-object-2.object)
    c.batch.ensures.batch c.in_ok-object-2.ensures.state c.in_ok-object-2.ensures.text c.loop-b.invariant
