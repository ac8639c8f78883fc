use Rattle.std.proofs.Common.{◌≡◌, ◌∙◌, [], List, ℕ, Bool, Some, get_or, sym, ap, arith, below_more}
use Rattle.std.proofs.lemmas.List.{get_or_read}
use Rattle.std.specs.List.{find, list_any}
use Rattle.std.specs.Str.{bytes_eq}
use Rattle.mol_merge.proofs.TagSearch.{first-at, none-at}
use Rattle.mol_merge.proofs.tags.least_shared.Goals as goal

pub loop-tag-preserved : goal.loop-tag-preserved
loop-tag-preserved c =
    let tags = c.items-tag-items.result.now in
    let item = get_or_read tags c.loop-tag.tag-index c.tag-item.result c.loop-tag-test.true c.tag-item.is [] in
    below_more _ _ c.loop-tag.invariant
    (ap (λ (tag : List ℕ). list_any (bytes_eq tag) c.args.other.now.tags) (sym item) ∙ sym c.has_tag.ensures ∙ c.if-has_tag.false)

pub returns-then-has_tag : goal.returns-then-has_tag
returns-then-has_tag c =
    let tags = c.items-tag-items.result.now in
    let shared : List ℕ → Bool = λ tag. list_any (bytes_eq tag) c.args.other.now.tags in
    let item = get_or_read tags c.loop-tag.tag-index c.tag-item.result c.loop-tag-test.true c.tag-item.is [] in
    ap Some item
    ∙ sym (first-at shared [] tags c.loop-tag.tag-index c.loop-tag-test.true c.loop-tag.invariant
    (ap shared (sym item) ∙ sym c.has_tag.ensures ∙ c.if-has_tag.true))
    ∙ ap (find shared) c.items-tag-items.ensures

pub returns : goal.returns
returns c =
    let tags = c.items-tag-items.result.now in
    let shared : List ℕ → Bool = λ tag. list_any (bytes_eq tag) c.args.other.now.tags in
    sym (none-at shared [] tags (λ k low. c.loop-tag.invariant k (omega (arith, low, c.loop-tag-test.false))))
    ∙ ap (find shared) c.items-tag-items.ensures
