use Rattle.std.proofs.Common.{sym, ◌∙◌}
use Rattle.std.proofs.lemmas.Result.{IfOk-weaker}
use Rattle.jav_scope.specs.Entries.{view_in}
use Rattle.mol_resolve_names.proofs.chains_lemmas.ChainsBegun.{no_names, whole-begun}
use Rattle.mol_resolve_names.proofs.chains.chains.chain_of.Goals as goal
use Rattle.mol_resolve_names.specs.chains.InMembers.{reader_in}
use Rattle.mol_resolve_readings.specs.locals.Scoped.{locals_of}
use Rattle.mol_resolve_readings.specs.reads.Reads.{names_of}
use Rattle.mol_resolve_members.proofs.sources_lemmas.Sourced.{sources_viewed}

pub returns-in-Some : goal.returns-in-Some
returns-in-Some c =
    let sources = c.args.scope.now in
    IfOk-weaker c.begun.result _ _ (λ chain begun source in_constructor at.
    let reader = reader_in sources c.args.unit source c.args.params.now in_constructor in
    whole-begun reader (view_in sources) (locals_of c.args.locals.now) c.in-Some.names (names_of reader c.args.e.now) chain
    (sources_viewed.same_view sources) (sym c.in-Some.is ∙ c.in_ok-names.ensures reader)
    (λ first rest is. begun source first rest at (c.items.ensures ∙ is)))
    c.begun.ensures

pub returns-in-None : goal.returns-in-None
returns-in-None c = λ source in_constructor at.
    let reader = reader_in c.args.scope.now c.args.unit source c.args.params.now in_constructor in
    no_names reader (locals_of c.args.locals.now) (names_of reader c.args.e.now) (sym c.in-None.is ∙ c.in_ok-names.ensures reader)
