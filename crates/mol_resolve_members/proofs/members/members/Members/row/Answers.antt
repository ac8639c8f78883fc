use Rattle.std.proofs.Common.{◌≡◌, ◌<◌, length, ◌∙◌, arith}
use Rattle.std.proofs.lemmas.Option.{slice_get_within}
use Rattle.mol_resolve_members.proofs.members_lemmas.RowsKept.{row-there, rows-counted}
use Rattle.mol_resolve_members.proofs.members.members.Members.row.Goals as goal

pub of_file-rows-requires : goal.of_file-rows-requires
of_file-rows-requires c = slice_get_within c.args.self.now c.args.member.unit c.requires.source c.requires.stands

pub bounds-rows-member : goal.bounds-rows-member
bounds-rows-member c = omega (
  arith,
  c.requires.within,
  rows-counted c.args.self.now c.args.member.unit c.requires.source c.requires.stands c.of_file-rows.result.now
      (c.of_file-rows.ensures c.requires.source c.requires.stands),
)

pub returns : goal.returns
returns c =
    let counted = rows-counted c.args.self.now c.args.member.unit c.requires.source c.requires.stands c.of_file-rows.result.now
    (c.of_file-rows.ensures c.requires.source c.requires.stands) in
    row-there c.args.self.now c.args.member.unit c.requires.source c.requires.stands c.of_file-rows.result.now
    (c.of_file-rows.ensures c.requires.source c.requires.stands) c.args.member.member c.index-rows-member.result
    (omega (arith, c.requires.within, counted)) c.index-rows-member.is
