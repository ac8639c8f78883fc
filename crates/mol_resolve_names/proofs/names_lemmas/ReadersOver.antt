-- The reader of a member is one over the files.
use Rattle.std.proofs.Common.{refl}
use Rattle.mol_resolve_names.specs.accesses.Over.{IsOver}
use Rattle.mol_resolve_names.specs.names.InMember.{reader_of}
use Rattle.mol_resolve_names.specs.declared.names.member_names.MemberNames.{MemberNames}
use Rattle.mol_resolve_members.proofs.sources_lemmas.Sourced.{sources_viewed}

pub reader-over : (names : MemberNames) → IsOver names.finder.now (reader_of names)
reader-over names = record { view = sources_viewed.same_view names.finder.now; ids = refl }
