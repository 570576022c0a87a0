use Rattle.std.proofs.Common.{◌++◌, codes}
use Rattle.program_io.specs.Lines.{place_words}
use Rattle.program_io.proofs.Fronts.{front_of_first, front_of_next}
use Rattle.program_io.proofs.line.write_line.Goals as goal

pub returns-in_err-write_all-clause-front : goal.returns-in_err-write_all-clause-front
returns-in_err-write_all-clause-front g c =
    front_of_first (g.E.Sink.taken c.args.err.now) (g.E.Sink.taken c.write_all.new.sink) c.args.line.now.program.now (codes ": " ++ (place_words c.args.line.now.number ++ (c.args.line.now.words.now ++ codes "\n"))) c.in_err-write_all.ensures.front

pub returns-in_err-write_all-2-clause-front : goal.returns-in_err-write_all-2-clause-front
returns-in_err-write_all-2-clause-front g c =
    let taken = g.E.Sink.taken in
    front_of_next (taken c.args.err.now) (taken c.write_all.new.sink) (taken c.write_all-2.new.sink) c.args.line.now.program.now (codes ": " ++ (place_words c.args.line.now.number ++ (c.args.line.now.words.now ++ codes "\n"))) c.in_ok-write_all.ensures.ok
    (front_of_first (taken c.write_all.new.sink) (taken c.write_all-2.new.sink) (codes ": ") (place_words c.args.line.now.number ++ (c.args.line.now.words.now ++ codes "\n")) c.in_err-write_all-2.ensures.front)

pub returns-clause-front : goal.returns-clause-front
returns-clause-front g c =
    let taken = g.E.Sink.taken in
    front_of_next (taken c.args.err.now) (taken c.write_all.new.sink) (taken c.write_words.new.err) c.args.line.now.program.now (codes ": " ++ (place_words c.args.line.now.number ++ (c.args.line.now.words.now ++ codes "\n"))) c.in_ok-write_all.ensures.ok
    (front_of_next (taken c.write_all.new.sink) (taken c.write_all-2.new.sink) (taken c.write_words.new.err) (codes ": ") (place_words c.args.line.now.number ++ (c.args.line.now.words.now ++ codes "\n")) c.in_ok-write_all-2.ensures.ok c.write_words.ensures.front)
