-- Where the names in a member stand.
use Rattle.std.specs.Prelude.{ℕ}
use Rattle.jav_names.specs.UnitViews.{MemberKey}
use Rattle.mol_resolve_names.specs.chains.InMembers.{reader_in}
use Rattle.mol_resolve_names.specs.declared.names.member_names.MemberNames.{MemberNames}
use Rattle.mol_resolve_rules.specs.Readers.{Reader}

abbrev pub reader_of : MemberNames → Reader ℕ MemberKey
reader_of names = reader_in names.finder.now names.unit names.source.now names.params.items names.in_constructor
