use Rattle.std.proofs.Common.{◌≡◌, length, min, take, drop}
use Rattle.bt_io.specs.Memory.{files_in}
use Rattle.bt_io.specs.Code.Kept.{bytes_at}
use Rattle.bt_io.proofs.Files.{read_front}
use Rattle.bt_io.proofs.mem_shelf.MemShelfShelf.read.Goals as goal

pub returns-clause-bytes : goal.returns-clause-bytes
returns-clause-bytes c =
    let file = bytes_at (files_in c.self.inside.files.items) c.in-Some.place in
    let rest : c.rest_of-rest.result.now ≡ drop c.self.inside.at file = rw (← c.as_slice.ensures.value) c.rest_of-rest.ensures.rest in
    let front : take c.give-count.result c.give-count.new.buf ≡ take c.give-count.result (drop c.self.inside.at file) = rw (← rest) c.give-count.ensures.bytes in
    let count : c.give-count.result ≡ min (min c.self.inside.cut (length c.give-count.new.buf)) (length (drop c.self.inside.at file)) = rw (← rest, c.give-count.auto.buf) c.give-count.ensures.count in
    rw (← c.self.view_is, c.in-Some.is) (read_front file c.give-count.new.buf c.self.inside.at c.give-count.result c.self.inside.cut front count c.self.invariant)
