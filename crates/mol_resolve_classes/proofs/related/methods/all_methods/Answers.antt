use Rattle.std.proofs.Common.{◌≡◌, ◌∙◌, List, map, ap}
use Rattle.std.proofs.lemmas.Result.{IfOk-weaker}
use Rattle.mol_resolve_classes.specs.declared.namesakes.declaration.Declaration.{Declaration}
use Rattle.mol_resolve_members.specs.sources.Sources.{files_of}
use Rattle.mol_resolve_rules.specs.ResolveFaults.{rows}
use Rattle.mol_resolve_classes.specs.related.Compared.{header_of_declaration, methods_in}
use Rattle.mol_resolve_classes.proofs.related_lemmas.AreNumbered.{numbered-in_order}
use Rattle.mol_resolve_classes.proofs.related.methods.all_methods.Goals as goal

pub new-requires : goal.new-requires
new-requires c = numbered-in_order c.in_ok-methods.methods.items c.in_ok-methods.ensures.numbered

pub returns : goal.returns
returns c = IfOk-weaker c.new.result (λ (methods : List Declaration). methods ≡ c.in_ok-methods.methods.items)
    (λ (methods : List Declaration). map header_of_declaration methods ≡ methods_in (rows (files_of c.args.members.now)))
    (λ methods same. ap (map header_of_declaration) same ∙ c.in_ok-methods.ensures.methods) c.new.ensures
