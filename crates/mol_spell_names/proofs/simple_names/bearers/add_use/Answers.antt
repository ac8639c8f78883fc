use Rattle.std.proofs.Common.{◌∙◌, ◌&&◌, ap}
use Rattle.std.proofs.lemmas.Result.{on_ok_weaker}
use Rattle.jav_names.specs.DottedNames.{cut, simple_name}
use Rattle.mol_spell_names.proofs.simple_names_lemmas.NamesLeft.{class-leaves, import-leaves, written-leaves}
use Rattle.mol_spell_names.proofs.simple_names.bearers.add_use.Goals as goal
use Rattle.mol_spell_names.specs.simple_names.Bearers.{bearer_at, may_be}
use Rattle.mol_spell_rules.specs.Writers.{simple_of}

pub returns-in-Class : goal.returns-in-Class
returns-in-Class c =
    let program = c.args.table.now in
    on_ok_weaker c.add_bearer.result (λ takes what.
    takes (simple_of program what) what
    ∙ ap (λ left. may_be (bearer_at c.args.bearers.now.entries (simple_of program what)) what && left)
    (class-leaves program what c.args.used.now c.in-Class.class _ _ c.in-Class.is c.name_of.ensures)) c.add_bearer.ensures

pub returns-in-Import : goal.returns-in-Import
returns-in-Import c =
    let program = c.args.table.now in
    on_ok_weaker c.add_bearer-in-Import.result (λ takes what.
    takes (simple_of program what) what
    ∙ ap (λ left. may_be (bearer_at c.args.bearers.now.entries (simple_of program what)) what && left)
    (import-leaves program what c.args.used.now c.in-Import.full _ _ c.in-Import.is
    (c.simple_name-name.ensures ∙ ap simple_name c.as_str.ensures))) c.add_bearer-in-Import.ensures

pub returns-in-Written : goal.returns-in-Written
returns-in-Written c =
    let program = c.args.table.now in
    on_ok_weaker c.add_bearer-in-Written.result (λ takes what.
    takes (simple_of program what) what
    ∙ ap (λ left. may_be (bearer_at c.args.bearers.now.entries (simple_of program what)) what && left)
    (written-leaves program what c.args.used.now c.in-Written.text _ c.in-Written.is
    (c.first_name.ensures ∙ ap (λ text. (cut text).first) c.as_str-in-Written.ensures))) c.add_bearer-in-Written.ensures
