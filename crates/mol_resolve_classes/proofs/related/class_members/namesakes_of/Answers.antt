use Rattle.std.proofs.Common.{◌≡◌, ◌∙◌, List, filter, map, ap}
use Rattle.std.proofs.lemmas.Result.{IfOk-weaker}
use Rattle.mol_resolve_members.specs.members.Rows.{kept_row}
use Rattle.mol_resolve_classes.specs.declared.namesakes.declaration.Declaration.{Declaration}
use Rattle.mol_resolve_classes.specs.related.Compared.{is_kind, seen_declaration, seen_declared}
use Rattle.mol_resolve_classes.specs.signatures.Repeats.{kind_of}
use Rattle.mol_resolve_classes.proofs.related_lemmas.KeptInOrder.{declared-in_order}
use Rattle.mol_resolve_classes.proofs.related.class_members.namesakes_of.Goals as goal

pub new-requires : goal.new-requires
new-requires c = declared-in_order (kind_of c.args.kind) (map kept_row c.args.rows.now) c.in_ok-declared.declared.items c.requires
    c.in_ok-declared.ensures

pub returns : goal.returns
returns c = IfOk-weaker c.new.result (λ (namesakes : List Declaration). namesakes ≡ c.in_ok-declared.declared.items)
    (λ (namesakes : List Declaration). map seen_declaration namesakes
    ≡ map seen_declared (filter (is_kind (kind_of c.args.kind)) (map kept_row c.args.rows.now)))
    (λ namesakes same. ap (map seen_declaration) same ∙ c.in_ok-declared.ensures) c.new.ensures
