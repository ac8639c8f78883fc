use Rattle.std.proofs.Common.{◌≡◌, ◌∙◌, List, ℕ, true, sym, ap, subst}
use Rattle.std.specs.List.{list_any}
use Rattle.std.specs.Str.{bytes_eq}
use Rattle.mol_log_rows.specs.lines.Headers.{ascend}
use Rattle.mol_merge.proofs.TagSearch.{searched, tags-ascend}
use Rattle.mol_merge.proofs.tags.has_tag.Goals as goal

pub returns : goal.returns
returns c =
    c.is_ok.ensures.value
    ∙ searched c.items.result.now
    (subst (λ (tags : List (List ℕ)). ascend tags ≡ true) (sym c.items.ensures) (tags-ascend c.args.log.now)) c.args.tag.now
    c.binary_search.result c.binary_search.ensures.bound c.binary_search.ensures.position
    ∙ ap (list_any (bytes_eq c.args.tag.now)) c.items.ensures
