use Rattle.std.proofs.Common.{◌≡◌, List, Option, map, subst}
use Rattle.std.specs.Prelude.{IfSome}
use Rattle.jav_scope.specs.declared.source.SourceUnit.{SourceUnit}
use Rattle.mol_resolve_classes.specs.declared.namesakes.declaration.Declaration.{Declaration}
use Rattle.mol_resolve_members.specs.sources.Sources.{files_of}
use Rattle.mol_resolve_rules.specs.ResolveFaults.{rows}
use Rattle.mol_resolve_classes.specs.related.Compared.{header_of_declaration, methods_in}
use Rattle.mol_resolve_classes.proofs.related.related.Related.faulty_among_all.Goals as goal

pub returns-in-Some : goal.returns-in-Some
returns-in-Some c =
    let kept = subst (λ (all : List SourceUnit). IfSome c.self.inside.methods
    (λ methods. map header_of_declaration methods ≡ methods_in (rows (files_of all)))) c.self.view_is c.self.invariant.methods in
    c.faulty_beside.ensures (rows (files_of c.args.self.now))
    (subst (λ (o : Option (List Declaration)). IfSome o (λ methods. map header_of_declaration methods
    ≡ methods_in (rows (files_of c.args.self.now)))) c.in-Some.is kept)
