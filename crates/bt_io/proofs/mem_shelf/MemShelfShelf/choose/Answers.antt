use Rattle.std.proofs.Common.{◌≡◌, is_some, true, false, Contains, sym, ◌∙◌, refl, inl, inr}
use Rattle.bt_io.specs.Memory.{file_named}
use Rattle.bt_io.proofs.mem_shelf.MemShelfShelf.choose.Goals as goal

pub returns-then-is_none-clause-found : goal.returns-then-is_none-clause-found
returns-then-is_none-clause-found c =
    let missing : is_some (file_named c.args.self.now.files c.args.name.now) ≡ false = rw (← c.self.view_is, ← c.as_slice.ensures.value) (sym c.place_of-self-inside.ensures.found ∙ c.if-is_none.ensures) in
    λ sure named. cc

pub returns-then-is_none-clause-fails : goal.returns-then-is_none-clause-fails
returns-then-is_none-clause-fails c =
    let missing : is_some (file_named c.args.self.now.files c.args.name.now) ≡ false = rw (← c.self.view_is, ← c.as_slice.ensures.value) (sym c.place_of-self-inside.ensures.found ∙ c.if-is_none.ensures) in
    (λ _. inr missing, λ _. refl)

pub returns-clause-fails : goal.returns-clause-fails
returns-clause-fails c =
    let there : is_some (file_named c.args.self.now.files c.args.name.now) ≡ true = rw (← c.self.view_is, ← c.as_slice.ensures.value) (sym c.place_of-self-inside.ensures.found ∙ c.if-is_none.ensures) in
    let unlisted : Contains c.args.self.now.fails c.args.self.now.calls → false ≡ true = rw (← c.self.view_is) c.in_ok-call.ensures.listed.1 in
    (λ failed. cc, λ cause. elim cause [ inl listed ↦ unlisted listed | inr missing ↦ cc ])
