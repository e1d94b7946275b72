-- `judging::judged`: the operands' numbers are lower, and each case is what its record makes of what its operands have. Assumes nothing.
use Rattle.std.proofs.Common.{◌∙◌, rules, arith}
use Rattle.judging.proofs.WalkLaws.{below_header, one_lower, two_lower, three_lower, leaf_found, one_found, two_found, three_found}
use Rattle.judging.proofs.+judged.Goals as goal

pub judged-requires : goal.judged-requires
judged-requires g t c κs live =
    let inside = below_header c.args.table.now.frame c.requires in
    let lower = one_lower c.args.table.now.records inside c.expression-r.ensures c.of_expression.ensures c.in-One.is in
    search (rules, arith, live.0, live.1)

pub judged-requires-in-Two : goal.judged-requires-in-Two
judged-requires-in-Two g t c κs live =
    let inside = below_header c.args.table.now.frame c.requires in
    let lower = two_lower c.args.table.now.records inside c.expression-r.ensures c.of_expression.ensures c.in-Two.is in
    search (rules, arith, live.0, live.1)

pub judged-requires-in-Two-2 : goal.judged-requires-in-Two-2
judged-requires-in-Two-2 g t c κs live =
    let inside = below_header c.args.table.now.frame c.requires in
    let lower = two_lower c.args.table.now.records inside c.expression-r.ensures c.of_expression.ensures c.in-Two.is in
    search (rules, arith, live.0, live.1)

pub judged-requires-in-Three : goal.judged-requires-in-Three
judged-requires-in-Three g t c κs live =
    let inside = below_header c.args.table.now.frame c.requires in
    let lower = three_lower c.args.table.now.records inside c.expression-r.ensures c.of_expression.ensures c.in-Three.is in
    search (rules, arith, live.0, live.1)

pub judged-requires-in-Three-2 : goal.judged-requires-in-Three-2
judged-requires-in-Three-2 g t c κs live =
    let inside = below_header c.args.table.now.frame c.requires in
    let lower = three_lower c.args.table.now.records inside c.expression-r.ensures c.of_expression.ensures c.in-Three.is in
    search (rules, arith, live.0, live.1)

pub judged-requires-in-Three-3 : goal.judged-requires-in-Three-3
judged-requires-in-Three-3 g t c κs live =
    let inside = below_header c.args.table.now.frame c.requires in
    let lower = three_lower c.args.table.now.records inside c.expression-r.ensures c.of_expression.ensures c.in-Three.is in
    search (rules, arith, live.0, live.1)

pub returns-in-Leaf : goal.returns-in-Leaf
returns-in-Leaf g t c =
    let inside = below_header c.args.table.now.frame c.requires in
    c.leaf.ensures
    ∙ leaf_found c.args.table.now.records inside c.expression-r.ensures c.of_expression.ensures (g.met.J.Judgement.course _) c.in-Leaf.is

pub returns-in-One : goal.returns-in-One
returns-in-One g t c =
    let inside = below_header c.args.table.now.frame c.requires in
    c.one.ensures
    ∙ one_found c.args.table.now.records inside c.expression-r.ensures c.of_expression.ensures (g.met.J.Judgement.course _) c.in-One.is c.judged.ensures

pub returns-in-Two : goal.returns-in-Two
returns-in-Two g t c =
    let inside = below_header c.args.table.now.frame c.requires in
    c.two.ensures
    ∙ two_found c.args.table.now.records inside c.expression-r.ensures c.of_expression.ensures (g.met.J.Judgement.course _) c.in-Two.is
    c.judged-in-Two.ensures c.judged-in-Two-2.ensures

pub returns-in-Three : goal.returns-in-Three
returns-in-Three g t c =
    let inside = below_header c.args.table.now.frame c.requires in
    c.three.ensures
    ∙ three_found c.args.table.now.records inside c.expression-r.ensures c.of_expression.ensures (g.met.J.Judgement.course _) c.in-Three.is
    c.judged-in-Three.ensures c.judged-in-Three-2.ensures c.judged-in-Three-3.ensures
