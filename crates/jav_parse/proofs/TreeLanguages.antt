-- What is known of the rules of expressions, bodies and members.
use Rattle.std.proofs.Common.{◌≡◌, ℕ, ◌<◌, true, List, [], length, Ok, refl, arith}
use Rattle.mol_base.specs.Token.{Token}
use Rattle.jav_tree.specs.Trees.{IsExpr, IsBody, IsMember}
use Rattle.jav_parse_cursor.specs.declared.limits.Limits.{Limits}
use Rattle.jav_parse_unit.specs.declared.reading.Language.TheVariants as asked
use Rattle.jav_parse_cursor.specs.Reading.{Parser}
use Rattle.jav_parse_unit.specs.WholeRules.{expression, body, declaration}
use Rattle.jav_parse.proofs.Calls.{ReadsTrees}
use Rattle.jav_parse.proofs.Languages.{agree_expression, agree_body, agree_declaration, local_expression, local_body, local_declaration}
use Rattle.jav_parse.proofs.SoundActions.{expression_laws}
use Rattle.jav_parse.proofs.SoundTrees.{reads_expression, reads_body, reads_declaration}
use Rattle.jav_parse.proofs.Wider.{wider_expression, wider_constructor_block, wider_declared}
use Rattle.jav_parse.proofs.Within.{IsBuilding}

pub building : (l : Limits) → l.builds ≡ true → 0 < l.most → IsBuilding l
building l b some = record { builds = b; some = some }

-- each tree is read whole
abbrev pub ReadsWhole : {A : Type 0} → (ℕ → ℕ → A → List Token → Type 0) → (Limits → ℕ → Parser A) → Type 0
ReadsWhole {A} IsTree rule = (l : Limits) (d : ℕ) → l.builds ≡ true → 0 < l.most → (a : A) (ts : List Token) → IsTree l.most d a ts → length ts < l.turns → rule l d ts ≡ Ok (a, [])

pub reads_expressions : ReadsWhole IsExpr expression → ReadsTrees IsExpr asked.Expr expression
reads_expressions whole = record {
  asked_is = λ l d ts. refl;
  local = local_expression;
  agree = λ l k d e like tops. agree_expression l k d e like tops;
  sound = λ l d b some high. reads_expression l (building l b some) (expression_laws l (building l b some)) d high;
  whole = whole;
  higher = λ le t. (t.0, (let w = t.1 in omega arith), t.2);
  wider = λ le t. (t.0, t.1, wider_expression le t.2);
}

pub reads_bodies : ReadsWhole IsBody body → ReadsTrees IsBody asked.Body body
reads_bodies whole = record {
  asked_is = λ l d ts. refl;
  local = local_body;
  agree = λ l k d e like tops. agree_body l k d e like tops;
  sound = λ l d b some high. reads_body l (building l b some) (expression_laws l (building l b some)) d high;
  whole = whole;
  higher = λ le t. (t.0, t.1, t.2, (let w = t.3 in omega arith), t.4, t.5);
  wider = λ le t. (t.0, t.1, t.2, t.3, wider_constructor_block le t.4, t.5);
}

pub reads_members : ReadsWhole IsMember declaration → ReadsTrees IsMember asked.Member declaration
reads_members whole = record {
  asked_is = λ l d ts. refl;
  local = local_declaration;
  agree = λ l k d e like tops. agree_declaration l k d e like tops;
  sound = λ l d b some high. reads_declaration l (building l b some) (expression_laws l (building l b some)) d high;
  whole = whole;
  higher = λ le t. (t.0, (let w = t.1 in omega arith), t.2);
  wider = λ le t. (t.0, t.1, wider_declared le t.2);
}
