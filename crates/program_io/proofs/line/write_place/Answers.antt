use Rattle.std.proofs.Common.{◌≡◌, ◌++◌, codes, ◌∙◌, append_assoc}
use Rattle.std.specs.Fmt.{decimal}
use Rattle.std.proofs.KnownBytes.{Appends-trans}
use Rattle.program_io.proofs.Fronts.{front_of_first, front_of_next}
use Rattle.program_io.proofs.line.write_place.Goals as goal

pub returns-in_err-write_all-clause-front : goal.returns-in_err-write_all-clause-front
returns-in_err-write_all-clause-front g c =
    rw (c.in-Some.is, append_assoc) (front_of_first (g.E.Sink.taken c.args.err.now) (g.E.Sink.taken c.write_all-2.new.sink) (codes "line ") (decimal c.in-Some.number ++ codes ": ") c.in_err-write_all.ensures.front)

pub returns-in_err-write_all-2-clause-front : goal.returns-in_err-write_all-2-clause-front
returns-in_err-write_all-2-clause-front g c =
    let taken = g.E.Sink.taken in
    let digits : c.as_bytes.result.now ≡ decimal c.in-Some.number = c.as_bytes.ensures.value ∙ c.format.ensures.text in
    rw (c.in-Some.is, append_assoc) (front_of_next (taken c.args.err.now) (taken c.write_all-2.new.sink) (taken c.write_all-3.new.sink) (codes "line ") (decimal c.in-Some.number ++ codes ": ") c.in_ok-write_all.ensures.ok
    (front_of_first (taken c.write_all-2.new.sink) (taken c.write_all-3.new.sink) (decimal c.in-Some.number) (codes ": ") (rw digits at c.in_err-write_all-2.ensures.front)))

pub returns-clause-front : goal.returns-clause-front
returns-clause-front g c =
    let taken = g.E.Sink.taken in
    let digits : c.as_bytes.result.now ≡ decimal c.in-Some.number = c.as_bytes.ensures.value ∙ c.format.ensures.text in
    rw c.in-Some.is (front_of_next (taken c.args.err.now) (taken c.write_all-3.new.sink) (taken c.write_all-4.new.sink) (codes "line " ++ decimal c.in-Some.number) (codes ": ")
    (Appends-trans (taken c.args.err.now) (taken c.write_all-2.new.sink) (taken c.write_all-3.new.sink) (codes "line ") (decimal c.in-Some.number) c.in_ok-write_all.ensures.ok (rw digits at c.in_ok-write_all-2.ensures.ok))
    c.write_all-4.ensures.front)
