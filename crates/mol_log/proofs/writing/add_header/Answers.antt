use Rattle.std.proofs.Common.{◌≡◌, ℕ, List, ap, ◌∙◌, arith}
use Rattle.serde_json.specs.Data.{depth}
use Rattle.serde_json.specs.View.{view}
use Rattle.serde_json.specs.Written.{has_float}
use Rattle.mol_log_rows.specs.lines.Headers.{header_data}
use Rattle.mol_log.proofs.EntriesWritten.{line_of, read_of}
use Rattle.mol_log.proofs.RowTexts.{header-line}
use Rattle.mol_log.specs.Form.{header_of, header_with}
use Rattle.mol_log.proofs.writing.add_header.Goals as goal

pub add_line-requires-clause-whole : goal.add_line-requires-clause-whole
add_line-requires-clause-whole c =
    let log = c.args.log.now in
    let is : view c.in_ok-header.header ≡ header_data (header_of log) =
    c.in_ok-header.ensures ∙ ap (λ (ts : List (List ℕ)). header_data (header_with log.base_digest ts)) c.items.ensures in
    ap has_float is ∙ (header-line (header_of log)).whole

pub add_line-requires-clause-deep : goal.add_line-requires-clause-deep
add_line-requires-clause-deep c =
    let log = c.args.log.now in
    let is : view c.in_ok-header.header ≡ header_data (header_of log) =
    c.in_ok-header.ensures ∙ ap (λ (ts : List (List ℕ)). header_data (header_with log.base_digest ts)) c.items.ensures in
    omega (arith, ap depth is, (header-line (header_of log)).deep)

pub returns-clause-text : goal.returns-clause-text
returns-clause-text c =
    let log = c.args.log.now in
    let is : view c.in_ok-header.header ≡ header_data (header_of log) =
    c.in_ok-header.ensures ∙ ap (λ (ts : List (List ℕ)). header_data (header_with log.base_digest ts)) c.items.ensures in
    line_of c.add_line.result c.add_line.new.text.items c.args.text.now.items (view c.in_ok-header.header) (header_data (header_of log)) is
    c.add_line.ensures.text

pub returns-clause-read : goal.returns-clause-read
returns-clause-read c =
    let log = c.args.log.now in
    let is : view c.in_ok-header.header ≡ header_data (header_of log) =
    c.in_ok-header.ensures ∙ ap (λ (ts : List (List ℕ)). header_data (header_with log.base_digest ts)) c.items.ensures in
    read_of c.add_line.result (view c.in_ok-header.header) (header_data (header_of log)) is c.add_line.ensures.read
