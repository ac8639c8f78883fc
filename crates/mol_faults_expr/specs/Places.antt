-- Where the names of an expression are written and read.
use Rattle.std.specs.Prelude.{◌≡◌}
use Rattle.mol_scope.specs.asked.Places.{IsAt, program_of, reader_of}
use Rattle.mol_scope.specs.declared.asked.place.NamePlace.{NamePlace}
use Rattle.mol_base.specs.declared.ident.Id.{Id}
use Rattle.mol_spell_places.specs.body_locals.Kept.{Kept, locals_of}
use Rattle.mol_resolve_rules.specs.Locals.{Locals}
use Rattle.mol_spell_rules.specs.Writers.{Writer}

-- They are read at this place, beside these locals.
pub record AreReadAt (writer : Writer) (locals : Locals Id) (place : NamePlace) (kept : Kept) : Type 0 where
  pub program : writer.program ≡ program_of place
  pub reader : writer.reader ≡ reader_of place
  pub at : IsAt place locals
  pub locals_are : locals ≡ locals_of kept
