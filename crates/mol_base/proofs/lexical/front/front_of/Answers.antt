use Rattle.std.proofs.Common.{sym, subst, ◌∙◌}
use Rattle.mol_base.specs.declared.lexical.front.Front.{Front}
use Rattle.mol_base.specs.Lexical.Flaws.{TakesSound, FindsFlaws}
use Rattle.mol_base.specs.Lexical.Front.{IsWithin, TakesLongest}
use Rattle.mol_base.proofs.Ends.{front-within}
use Rattle.mol_base.proofs.Flawed.{front-FindsFlaws}
use Rattle.mol_base.proofs.Longest.{front-longest}
use Rattle.mol_base.proofs.Sources.{front-TakesSound}
use Rattle.mol_base.proofs.Whole.{IsWhole-token, IsToken-whole}
use Rattle.mol_base.proofs.lexical.front.front_of.Goals as goal

pub returns-clause-within : goal.returns-clause-within
returns-clause-within c = λ some. let P : Front → Type 0 = IsWithin c.args.bytes.now in subst P (sym c.by_first_bytes.ensures) (front-within c.args.bytes.now some)

pub returns-clause-longest : goal.returns-clause-longest
returns-clause-longest c = λ some. let P : Front → Type 0 = TakesLongest c.args.bytes.now in subst P (sym c.by_first_bytes.ensures) (front-longest c.args.bytes.now some)

pub returns-clause-whole : goal.returns-clause-whole
returns-clause-whole c = λ kind. (λ is. c.by_first_bytes.ensures ∙ IsWhole-token kind c.args.bytes.now is, λ taken. IsToken-whole kind c.args.bytes.now (sym c.by_first_bytes.ensures ∙ taken))

pub returns-clause-sound : goal.returns-clause-sound
returns-clause-sound c = λ some. let P : Front → Type 0 = TakesSound c.args.bytes.now in subst P (sym c.by_first_bytes.ensures) (front-TakesSound c.args.bytes.now some)

pub returns-clause-flaws : goal.returns-clause-flaws
returns-clause-flaws c = λ some. let P : Front → Type 0 = FindsFlaws c.args.bytes.now in subst P (sym c.by_first_bytes.ensures) (front-FindsFlaws c.args.bytes.now some)
