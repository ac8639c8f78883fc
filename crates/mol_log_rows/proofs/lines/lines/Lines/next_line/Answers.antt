use Rattle.std.proofs.Common.{◌≡◌, ℕ, ◌+◌, ◌==◌, List, length, false, refl, sym, ap, ◌∙◌, arith, rules, tests}
use Rattle.std.specs.List.{between, position}
use Rattle.std.proofs.lemmas.Iterator.{YieldsList-from_slice}
use Rattle.std.proofs.lemmas.Iterator.Search.{position_from_yields_List}
use Rattle.std.proofs.lemmas.List.{drop_all}
use Rattle.std.proofs.lemmas.Slice.{between_to_end}
use Rattle.mol_log_rows.specs.lines.Lines.{is_end}
use Rattle.mol_log_rows.proofs.lines_lemmas.LineCuts.{no_lines, cut_line, torn_rest}
use Rattle.mol_log_rows.proofs.lines.lines.Lines.next_line.Goals as goal

pub returns-then-is_empty : goal.returns-then-is_empty
returns-then-is_empty c =
    let none = no_lines c.args.self.now.rest.now (sym c.is_empty.ensures ∙ c.if-is_empty.true) in
    (none, none)

pub returns-in-Some : goal.returns-in-Some
returns-in-Some c =
    let bytes = c.args.self.now.rest.now in
    let found : c.position.result ≡ position is_end bytes =
    position_from_yields_List is_end _ _ c.position.result c.position.ensures.ran (YieldsList-from_slice bytes cc) (λ x b q k. search (rules, tests)) in
    cut_line bytes _ (between (c.in-Some.end + 1) (length bytes) bytes) c.in-Some.end (sym found ∙ c.in-Some.is) refl
    (between_to_end bytes (c.in-Some.end + 1) (length bytes) (omega arith))

pub returns-in-None : goal.returns-in-None
returns-in-None c =
    let bytes = c.args.self.now.rest.now in
    let found : c.position.result ≡ position is_end bytes =
    position_from_yields_List is_end _ _ c.position.result c.position.ensures.ran (YieldsList-from_slice bytes cc) (λ x b q k. search (rules, tests)) in
    let some : (length bytes == 0) ≡ false = sym c.is_empty.ensures ∙ c.if-is_empty.false in
    torn_rest bytes (between (length bytes) (length bytes) bytes) (sym found ∙ c.in-None.is)
    (λ none. let clash = sym some ∙ ap (λ (bs : List ℕ). length bs == 0) none in absurd cc)
    (between_to_end bytes (length bytes) (length bytes) (omega arith) ∙ drop_all (length bytes) bytes (omega arith))
