use Rattle.std.proofs.Common.{[], ◌==◌, cond, ◌∙◌, ap, refl}
use Rattle.byte_scanner.specs.KeptBytes.{kept_bytes}
use Rattle.byte_scanner.specs.Scanned.{Scanned}
use Rattle.byte_scanner.proofs.JoinedRuns.{fed_first, fed_on, first_count}
use Rattle.byte_scanner.proofs.piece_scan.Scanner.feed.Goals as goal

pub returns-in-Some-clause-length : goal.returns-in-Some-clause-length
returns-in-Some-clause-length c = first_count _ _ c.in-Some.found c.in-Some.ensures

pub returns-in-Some-clause-found : goal.returns-in-Some-clause-found
returns-in-Some-clause-found c =
    let kept_is = c.kept_at-kept.ensures.same ∙ ap (λ (s : Scanned). cond (s.end == c.args.at) s.kept []) c.self.view_is in
    fed_first c.args.self.now c.args.at c.args.piece.now (kept_bytes c.kept_at-kept.result) kept_is c.in-Some.found c.in-Some.ensures

pub returns-clause-found : goal.returns-clause-found
returns-clause-found c =
    let kept_is = c.kept_at-kept.ensures.same ∙ ap (λ (s : Scanned). cond (s.end == c.args.at) s.kept []) c.self.view_is in
    fed_on c.args.self.now c.args.at c.args.piece.now (kept_bytes c.kept_at-kept.result) kept_is _ c.kept_behind-self-inside.ensures.last refl c.in_default.ensures
