use Rattle.std.proofs.Common.{◌∙◌, sym}
use Rattle.mol_spell_places.proofs.scope_names_lemmas.PlacesPut.{first-kept, first-put}
use Rattle.mol_spell_places.proofs.scope_names.nearest.put_first.Goals as goal

pub returns-in-Some : goal.returns-in-Some
returns-in-Some c = λ asked.
    first-kept c.args.places.now.entries c.args.name.now asked c.args.place c.in-Some.field-0 (sym c.in-Some.ensures)

pub returns-in_ok-put-in-None : goal.returns-in_ok-put-in-None
returns-in_ok-put-in-None c = λ asked.
    c.in_ok-put-in-None.ensures.ok asked
    ∙ first-put c.args.places.now.entries c.args.name.now asked c.args.place (sym c.in-None.ensures)
