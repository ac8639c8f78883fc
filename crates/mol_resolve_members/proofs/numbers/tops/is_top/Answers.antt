use Rattle.std.proofs.Common.{◌==◌, ◌∙◌, arith}
use Rattle.jav_scope.specs.Entries.{view_in}
use Rattle.mol_resolve_members.specs.places.Listings.{key_of}
use Rattle.mol_resolve_members.specs.numbers.Tops.{top_key}
use Rattle.mol_resolve_members.proofs.numbers_lemmas.MemberKeys.{has-key}
use Rattle.mol_resolve_members.proofs.numbers_lemmas.TopKeys.{place-inside, same-place, top-in, top-there, tops-length}
use Rattle.mol_resolve_members.proofs.numbers.tops.is_top.Goals as goal

pub bounds-tops-place : goal.bounds-tops-place
bounds-tops-place c =
    let sources = c.args.places.now in
    let stands = has-key sources c.args.at c.requires.member in
    omega (
      arith,
      c.member-place.ensures,
      place-inside sources (key_of c.args.at) stands,
      tops-length sources c.args.tops.now c.requires.tops,
    )

pub returns : goal.returns
returns c =
    let sources = c.args.places.now in
    let key = key_of c.args.at in
    let stands = has-key sources c.args.at c.requires.member in
    let top = top-there sources c.args.tops.now c.requires.tops key stands c.member-place.result 0 c.member-place.ensures in
    (λ i. top i == c.member-place.ensures i)
    ∙ same-place sources (top_key (view_in sources) key) key (top-in sources key stands) stands
