use Rattle.std.proofs.Common.{◌≡◌, ◌≤◌, IsTrue, vec_len}
use Rattle.std.specs.Io.KnownBytes.{Consumes}
use Rattle.bt_io.proofs.shelf.read_up_to.Given as goal

abbrev pub invariant-loop : goal.invariant-loop
invariant-loop g l =
    let shelf = g.S.Shelf in
    record {
      room : vec_len l.bytes ≤ l.limit;
      turns : l.counter ≤ vec_len l.bytes;
      told : Consumes (shelf.left l.fn.shelf) (shelf.left l.shelf) l.bytes.items;
      ready : IsTrue (shelf.ready l.shelf);
      may : shelf.may l.shelf ≡ shelf.may l.fn.shelf;
      held : shelf.held l.shelf ≡ shelf.held l.fn.shelf;
      later : shelf.faults l.fn.shelf ≤ shelf.faults l.shelf;
      never_fails : IsTrue (shelf.never_fails l.fn.shelf) → IsTrue (shelf.never_fails l.shelf);
    }
