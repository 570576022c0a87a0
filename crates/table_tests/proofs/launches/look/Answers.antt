use Rattle.table_tests.proofs.LaunchLemmas.Flags.{flag_took, flag_passed}
use Rattle.table_tests.proofs.launches.look.Goals as goal

pub returns-in_ok-push-in-Some : goal.returns-in_ok-push-in-Some
returns-in_ok-push-in-Some c =
    let took = c.in-Some.ensures.took in
    record {
      flag = flag_took c.args.table.now c.args.u c.args.shop.now c.args.calls.now.items c.args.pass.now c.requires.flag c.take.new.pass c.in-Some.ensures.pass
          c.in-Some.call c.push.new.self.items c.requires.two c.requires.low took.0 took.1 took.2 took.4 c.in_ok-push-in-Some.ensures.items;
    }

pub returns-in-None : goal.returns-in-None
returns-in-None c = record {
  flag = flag_passed c.args.table.now c.args.u c.args.shop.now c.args.calls.now.items c.args.pass.now c.requires.flag c.take.new.pass c.in-None.ensures.pass
      c.in-None.ensures.passed.0 c.in-None.ensures.passed.0.found c.in-None.ensures.passed.2;
}
