use Rattle.table_tests.proofs.launches.serve_calls.Goals as goal

pub returns-clause-batch : goal.returns-clause-batch
returns-clause-batch c =
    c.in_ok-shop.ensures.batch (record { before = c.args.shop; calls = c.args.calls.items; ins = c.in_ok-opened.pieces.items }) c.in_ok-opened.ensures.context c.in_ok-outs.ensures

pub returns-clause-shop : goal.returns-clause-shop
returns-clause-shop c =
    c.in_ok-shop.ensures.history (record { before = c.args.shop; calls = c.args.calls.items; ins = c.in_ok-opened.pieces.items }) c.in_ok-opened.ensures.context c.in_ok-outs.ensures
