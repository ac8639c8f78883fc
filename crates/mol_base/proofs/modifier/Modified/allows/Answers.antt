use Rattle.std.specs.Prelude.{◌≡◌, true, false}
use Rattle.std.proofs.Common.{sym, ◌∙◌}
use Rattle.mol_base.specs.Modifiers.{class_words, field_words, method_words, abstract_words, kept_words, constructor_words}
use Rattle.mol_base.proofs.Allowed.{AllowedWords-test}
use Rattle.mol_base.proofs.modifier.Modified.allows.Goals as goal

pub returns-in-Class : goal.returns-in-Class
returns-in-Class c = rw c.in-Class.is (AllowedWords-test class_words c.args.words.now c.all_allowed.result c.all_allowed.ensures)

pub returns-in-Field : goal.returns-in-Field
returns-in-Field c = rw c.in-Field.is (AllowedWords-test field_words c.args.words.now c.all_allowed-in-Field.result c.all_allowed-in-Field.ensures)

pub returns-in-Method : goal.returns-in-Method
returns-in-Method c = rw c.in-Method.is (AllowedWords-test method_words c.args.words.now c.all_allowed-in-Method.result c.all_allowed-in-Method.ensures)

pub returns-in-KeptMethod : goal.returns-in-KeptMethod
returns-in-KeptMethod c = rw c.in-KeptMethod.is (AllowedWords-test kept_words c.args.words.now c.all_allowed-in-KeptMethod.result c.all_allowed-in-KeptMethod.ensures)

pub returns-in-Constructor : goal.returns-in-Constructor
returns-in-Constructor c = rw c.in-Constructor.is (AllowedWords-test constructor_words c.args.words.now c.all_allowed-in-Constructor.result c.all_allowed-in-Constructor.ensures)

pub returns-then-all_allowed : goal.returns-then-all_allowed
returns-then-all_allowed c =
    let tests = AllowedWords-test abstract_words c.args.words.now c.all_allowed-in-AbstractMethod.result c.all_allowed-in-AbstractMethod.ensures in
    rw c.in-AbstractMethod.is
    (λ yes. (tests.0 c.if-all_allowed.true, sym c.has.ensures ∙ yes), λ are. c.has.ensures ∙ are.1)

pub returns-else-all_allowed : goal.returns-else-all_allowed
returns-else-all_allowed c =
    let tests = AllowedWords-test abstract_words c.args.words.now c.all_allowed-in-AbstractMethod.result c.all_allowed-in-AbstractMethod.ensures in
    rw c.in-AbstractMethod.is
    (λ yes. absurd (let clash : false ≡ true = sym c.if-all_allowed.false ∙ yes in cc), λ are. tests.1 are.0)
