use Rattle.std.proofs.Common.{◌≡◌, ◌∙◌, sym}
use Rattle.std.proofs.lemmas.Result.{IfOk-weaker}
use Rattle.mol_resolve_expr.proofs.StandsEither.{where_alone, where_before}
use Rattle.mol_resolve_expr.proofs.expr_reader.ExprReader.chain_at.Goals as goal
use Rattle.mol_resolve_readings.specs.locals.Scoped.{locals_of}
use Rattle.mol_resolve_readings.specs.reads.Chains.{chain_of}
use Rattle.mol_resolve_readings.specs.reads.Reads.{names_of}
use Rattle.mol_resolve_rules.specs.ReadTrees.{followers}

pub returns-in-Alone : goal.returns-in-Alone
returns-in-Alone g c =
    let reader = g.N.Names.reader c.args.self.now.names.now in
    let locals = locals_of c.args.self.now.locals.now in
    let names = names_of reader c.args.e.now in
    IfOk-weaker c.chain.result _ _ (λ chain is mode stands.
    where_alone reader locals (λ mode. chain ≡ chain_of reader locals names (followers mode)) names mode (sym c.in-Alone.is ∙ stands) is)
    c.chain.ensures

pub returns-in-Before : goal.returns-in-Before
returns-in-Before g c =
    let reader = g.N.Names.reader c.args.self.now.names.now in
    let locals = locals_of c.args.self.now.locals.now in
    let names = names_of reader c.args.e.now in
    let chain = c.in-Before.chain in
    λ mode stands. where_before reader locals (λ mode. chain ≡ chain_of reader locals names (followers mode)) names chain mode
    (sym c.in-Before.is ∙ stands) (λ follow is. is)
