use Rattle.mol_resolve_names.proofs.accesses.arguments.arguments.Goals as goal
use Rattle.mol_resolve_rules.specs.ReadTrees.{arguments_of}
use Rattle.std.proofs.Common.{Some, option_map, ap, sym, ◌∙◌}

pub returns-in_ok-args-in-Some : goal.returns-in_ok-args-in-Some
returns-in_ok-args-in-Some c = λ reader declared over is. ap (λ args. Some args) (c.in_ok-args-in-Some.ensures reader declared over is)
    ∙ ap (option_map (arguments_of reader declared)) (sym c.in-Some.is)
