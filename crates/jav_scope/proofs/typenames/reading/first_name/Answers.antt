use Rattle.std.proofs.Common.{Some, None, lit<}
use Rattle.std.proofs.lemmas.Str.Pattern.{split_parts}
use Rattle.jav_scope.proofs.typenames_lemmas.FirstNames.{cut-at_dot, cut-nowhere}
use Rattle.jav_scope.proofs.typenames.reading.first_name.Goals as goal

pub returns-in-Some : goal.returns-in-Some
returns-in-Some c =
    let parts = split_parts 46 c.args.text.now (Some (c.in-Some.first, c.in-Some.rest)) c.in-Some.ensures.cases (lit< tt) in
    cut-at_dot c.args.text.now c.in-Some.first.now c.in-Some.rest.now parts.0 parts.1

pub returns-in-None : goal.returns-in-None
returns-in-None c = cut-nowhere c.args.text.now (split_parts 46 c.args.text.now None c.in-None.ensures.cases (lit< tt))
