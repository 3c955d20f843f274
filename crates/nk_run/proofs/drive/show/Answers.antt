use Rattle.std.proofs.Common.{◌≡◌, ℕ, List, OnErr, OnOk, ap, sym, subst, ◌∙◌}
use Rattle.std.specs.Io.KnownBytes.{Appends}
use Rattle.nk_host.specs.Taken.{AppendsPrefix}
use Rattle.nk_body.specs.SourceWords.{sourced_of}
use Rattle.gate_state.specs.declared.seen.Step.{Step}
use Rattle.gate_state.specs.MachineSteps.{source_of}
use Rattle.report_text.specs.RunLines.{call_line}
use Rattle.nk_run.proofs.StepTexts.{called_source, lines_of, shows_step}
use Rattle.nk_run.proofs.drive.show.Goals as goal

pub returns-in-Seen-clause-all : goal.returns-in-Seen-clause-all
returns-in-Seen-clause-all g c m w is read =
    let text = ap (λ (x : Step). lines_of x w.state) (sym c.in-Seen.is ∙ is) ∙ shows_step m w.state in
    subst (λ (l : List ℕ). OnOk c.show_seen.result (Appends (g.O.Sink.taken c.args.sink.now) (g.O.Sink.taken c.show_seen.new.sink) l)) text c.show_seen.ensures.all

pub returns-in-Seen-clause-some : goal.returns-in-Seen-clause-some
returns-in-Seen-clause-some g c m w is read =
    let text = ap (λ (x : Step). lines_of x w.state) (sym c.in-Seen.is ∙ is) ∙ shows_step m w.state in
    subst (λ (l : List ℕ). OnErr c.show_seen.result (AppendsPrefix (g.O.Sink.taken c.args.sink.now) (g.O.Sink.taken c.show_seen.new.sink) l)) text c.show_seen.ensures.some

pub returns-in-Called-clause-all : goal.returns-in-Called-clause-all
returns-in-Called-clause-all g c m w is read =
    let took = called_source m w c.in-Called.it (sym c.in-Called.is ∙ is) in
    let source : sourced_of c.source.result ≡ source_of w.state = c.source.ensures (source_of w.state) took.0 (read ∙ took.1) in
    let text = ap (λ x. call_line c.in-Called.it.call x c.in-Called.it.answer) source
    ∙ (ap (λ (x : Step). lines_of x w.state) (sym c.in-Called.is ∙ is) ∙ shows_step m w.state) in
    subst (λ (l : List ℕ). OnOk c.called.result (Appends (g.O.Sink.taken c.args.sink.now) (g.O.Sink.taken c.called.new.sink) l)) text c.called.ensures.all

pub returns-in-Called-clause-some : goal.returns-in-Called-clause-some
returns-in-Called-clause-some g c m w is read =
    let took = called_source m w c.in-Called.it (sym c.in-Called.is ∙ is) in
    let source : sourced_of c.source.result ≡ source_of w.state = c.source.ensures (source_of w.state) took.0 (read ∙ took.1) in
    let text = ap (λ x. call_line c.in-Called.it.call x c.in-Called.it.answer) source
    ∙ (ap (λ (x : Step). lines_of x w.state) (sym c.in-Called.is ∙ is) ∙ shows_step m w.state) in
    subst (λ (l : List ℕ). OnErr c.called.result (AppendsPrefix (g.O.Sink.taken c.args.sink.now) (g.O.Sink.taken c.called.new.sink) l)) text c.called.ensures.some
