-- Statements up to a height, at each place.
use Rattle.std.proofs.Common.{◌≡◌, ℕ, zero, suc, ◌-◌, ◌<◌, inr, refl, sym, subst, arith}
use Rattle.jav_parse_cursor.specs.declared.limits.Limits.{Limits}
use Rattle.jav_parse_stmt.specs.declared.stmt.Place.TheVariants as place
use Rattle.jav_parse_stmt.specs.StmtRules.{stmt}
use Rattle.jav_parse.proofs.ExpressionLaws.{ExpressionLaws}
use Rattle.jav_parse.proofs.Meets.{Reads}
use Rattle.jav_parse.proofs.SoundBranches.{ChoiceForm, PlaceForm, Inner}
use Rattle.jav_parse.proofs.SoundLoops.{reads_one_item, reads_one_plain, reads_one_branch, tries_chain}
use Rattle.jav_parse.proofs.SoundStatements.{ItemForm}
use Rattle.jav_parse.proofs.StatementForms.{Stands}
use Rattle.jav_parse.proofs.Steps.{Tries}

-- how statements of at most this height are read
record Turn (l : Limits) (d : ℕ) : Type 0 where
  item : 0 < d → Reads (Stands (ItemForm l) d) (stmt l d place.Item)
  plain : 0 < d → Reads (Stands (PlaceForm l place.Plain) d) (stmt l d place.Plain)
  branch : 0 < d → Reads (Stands (PlaceForm l place.Branch) d) (stmt l d place.Branch)
  chain : Tries (Stands (ChoiceForm l) d) (stmt l d place.Chain)

inner_of : (l : Limits) (top a b : ℕ) → top - 1 ≡ a → top - 1 - 1 ≡ b → Turn l a → Turn l b → Inner l top (stmt l a) (stmt l b)
inner_of l top a b e f once twice = record {
  chain = subst (λ k. Tries (Stands (ChoiceForm l) k) (stmt l a place.Chain)) (sym e) once.chain;
  item = subst (λ k. 0 < k → Reads (Stands (ItemForm l) k) (stmt l b place.Item)) (sym f) twice.item;
  plain = subst (λ k. 0 < k → Reads (Stands (PlaceForm l place.Plain) k) (stmt l b place.Plain)) (sym f) twice.plain;
  branch_is = subst (λ k. 0 < k → Reads (Stands (PlaceForm l place.Branch) k) (stmt l b place.Branch)) (sym f) twice.branch;
}

turn : (l : Limits) → ExpressionLaws l → (d : ℕ) → Turn l d
unfolding stmt
turn l laws zero = record { item = λ q. absurd (omega arith); plain = λ q. absurd (omega arith); branch = λ q. absurd (omega arith); chain = inr (λ ts. refl) }
turn l laws (suc zero) =
    let inner = inner_of l 1 0 0 refl refl (turn l laws zero) (turn l laws zero) in
    record {
      item = λ q. reads_one_item l laws 1 (stmt l zero) (stmt l zero) inner q;
      plain = λ q. reads_one_plain l laws 1 (stmt l zero) (stmt l zero) inner q;
      branch = λ q. reads_one_branch l laws 1 (stmt l zero) (stmt l zero) inner q;
      chain = tries_chain l laws 1 (stmt l zero) (stmt l zero) inner (omega arith);
    }
turn l laws (suc (suc d)) =
    let inner = inner_of l (suc (suc d)) (suc d) d (omega arith) (omega arith) (turn l laws (suc d)) (turn l laws d) in
    record {
      item = λ q. reads_one_item l laws (suc (suc d)) (stmt l (suc d)) (stmt l d) inner q;
      plain = λ q. reads_one_plain l laws (suc (suc d)) (stmt l (suc d)) (stmt l d) inner q;
      branch = λ q. reads_one_branch l laws (suc (suc d)) (stmt l (suc d)) (stmt l d) inner q;
      chain = tries_chain l laws (suc (suc d)) (stmt l (suc d)) (stmt l d) inner (omega arith);
    }

-- a statement of a block
pub reads_stmt : (l : Limits) → ExpressionLaws l → (d : ℕ) → 0 < d → Reads (Stands (ItemForm l) d) (stmt l d place.Item)
reads_stmt l laws d p = (turn l laws d).item p
