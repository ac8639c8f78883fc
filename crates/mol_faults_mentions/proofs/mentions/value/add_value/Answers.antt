use Rattle.std.proofs.Common.{◌∙◌, sym, ap}
use Rattle.std.proofs.lemmas.Result.{on_ok_weaker}
use Rattle.std.specs.List.{flat_map}
use Rattle.mol_base.proofs.Added.{adds, adds-none}
use Rattle.mol_faults_mentions.proofs.mentions.value.add_value.Goals as goal
use Rattle.mol_table_rules.specs.Mentions.{mentions, param_mentions}
use Rattle.mol_values_types.specs.declared.value.Value.TheVariants as values

pub returns-in-Live : goal.returns-in-Live
returns-in-Live c = adds-none c.args.mentions.now _ (ap mentions c.in-Live.is)

pub returns-in-Package : goal.returns-in-Package
returns-in-Package c = adds-none c.args.mentions.now _ (ap mentions c.in-Package.is)

pub returns-in-Owner : goal.returns-in-Owner
returns-in-Owner c =
    on_ok_weaker c.add.result (adds c.args.mentions.now _ _ _ (ap mentions c.in-Owner.is)) c.add.ensures

pub returns-in-Method : goal.returns-in-Method
returns-in-Method c =
    on_ok_weaker c.add-in-Method.result (adds c.args.mentions.now _ _ _ (ap mentions c.in-Method.is)) c.add-in-Method.ensures

pub returns-in-Name : goal.returns-in-Name
returns-in-Name c = adds-none c.args.mentions.now _ (ap mentions c.in-Name.is)

pub returns-in-Super : goal.returns-in-Super
returns-in-Super c =
    on_ok_weaker c.add_parent.result (adds c.args.mentions.now _ _ _ (ap mentions c.in-Super.is)) c.add_parent.ensures

pub returns-in-Result : goal.returns-in-Result
returns-in-Result c =
    on_ok_weaker c.add_type.result (adds c.args.mentions.now _ _ _ (ap mentions c.in-Result.is)) c.add_type.ensures

pub returns-in-Params : goal.returns-in-Params
returns-in-Params c =
    on_ok_weaker c.add_params.result
    (adds c.args.mentions.now _ _ _ (ap mentions c.in-Params.is ∙ ap (flat_map param_mentions) (sym c.items.ensures)))
    c.add_params.ensures

pub returns-in-Kind : goal.returns-in-Kind
returns-in-Kind c = adds-none c.args.mentions.now _ (ap mentions c.in-Kind.is)

pub returns-in-Fixed : goal.returns-in-Fixed
returns-in-Fixed c = adds-none c.args.mentions.now _ (ap mentions c.in-Fixed.is)

pub returns-in-Words : goal.returns-in-Words
returns-in-Words c = adds-none c.args.mentions.now _ (ap mentions c.in-Words.is)

pub returns-in-Notes : goal.returns-in-Notes
returns-in-Notes c = adds-none c.args.mentions.now _ (ap mentions c.in-Notes.is)

pub returns-in-Body : goal.returns-in-Body
returns-in-Body c =
    on_ok_weaker c.add_body.result (adds c.args.mentions.now _ _ _ (ap mentions c.in-Body.is)) c.add_body.ensures

pub returns-in-Value : goal.returns-in-Value
returns-in-Value c =
    on_ok_weaker c.add_field.result (adds c.args.mentions.now _ _ _
    (ap mentions (c.in-Value.is ∙ ap (values.Value c.in-Value.ty) (sym c.get.ensures)))) c.add_field.ensures
