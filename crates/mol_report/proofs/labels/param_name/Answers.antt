use Rattle.std.proofs.Common.{◌≡◌, ◌∙◌, ℕ, List, [], Option, sym, ap, option_copied}
use Rattle.std.specs.List.{find}
use Rattle.std.specs.Option.{option_and_then, option_map_or}
use Rattle.mol_base.specs.declared.ident.Id.{Id}
use Rattle.mol_resolve_rules.specs.StaticTypes.{present_param}
use Rattle.mol_table_rules.specs.Program.{Program, same_id, params_at, method_in}
use Rattle.mol_values_types.proofs.Ties.{id_ties}
use Rattle.mol_values_types.specs.declared.param.Param.{Param}
use Rattle.mol_report.proofs.labels.param_name.Goals as goal

abbrev first_of : Program → Id → Id → Option Param
first_of base id method = find (λ (param : Param). same_id id param.id) (params_at base method)

abbrev name_of : Option Param → List ℕ
name_of param = option_map_or (λ (p : Param). p.name) param []

pub returns-in-Some : goal.returns-in-Some
returns-in-Some c =
    let base = c.args.base.now in
    let id : Id = c.args.id.now in
    let found : option_copied c.param_of.result ≡ first_of base id c.args.method.now = c.param_of.ensures
    ∙ (λ i. find (λ (param : Param). id_ties id param.id i) c.params_of.result.now)
    ∙ ap (find (λ (param : Param). same_id id param.id)) c.params_of.ensures in
    let present : present_param base id ≡ first_of base id c.args.method.now =
    ap (λ known. option_and_then (first_of base id) (method_in known)) c.requires in
    c.bytes.ensures.bytes ∙ ap name_of (sym (ap option_copied c.in-Some.is) ∙ found ∙ sym present)

pub returns-in-None : goal.returns-in-None
returns-in-None c =
    let base = c.args.base.now in
    let id : Id = c.args.id.now in
    let found : option_copied c.param_of.result ≡ first_of base id c.args.method.now = c.param_of.ensures
    ∙ (λ i. find (λ (param : Param). id_ties id param.id i) c.params_of.result.now)
    ∙ ap (find (λ (param : Param). same_id id param.id)) c.params_of.ensures in
    let present : present_param base id ≡ first_of base id c.args.method.now =
    ap (λ known. option_and_then (first_of base id) (method_in known)) c.requires in
    ap name_of (sym (ap option_copied c.in-None.is) ∙ found ∙ sym present)
