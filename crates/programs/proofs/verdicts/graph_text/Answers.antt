-- `verdicts::graph_text`: the line of 12 where an input is too long, else the page, or the line of its refusal.
use Rattle.std.proofs.Common.{◌≡◌, ℕ, ◌≤◌, ap, ap₂, sym, ◌∙◌, arith, length}
use Rattle.std.proofs.lemmas.List.Edits.{sets}
use mathlib.Core.Path.{subst}
use Rattle.model.specs.Refusals.{number_of, detail_of}
use Rattle.spec.specs.Lists.{Bytes, Verdict, refused}
use Rattle.spec.specs.Entry.{overwrite, written}
use Rattle.spec.specs.Page.{page_output, print_graph}
use Rattle.spec.specs.Programs.{refusal_line, printed}
use Rattle.laws.proofs.Answers.{refused-as, accepted-as}
use Rattle.laws.proofs.Stores.{stored-first}
use Rattle.programs.proofs.FormulaProgram.{is-long, not-long}
use Rattle.programs.proofs.Lines.{refused-output}
use Rattle.programs.proofs.verdicts.graph_text.Goals as goal

-- what is stored of a verdict, and how long it is
abbrev Stores : Verdict Bytes → Bytes → ℕ → Bytes → Type 0
Stores v old n new = (n ≡ length (printed (λ page. page) v)) × (new ≡ overwrite old (printed (λ page. page) v))

stores-same : {v w : Verdict Bytes} (old : Bytes) {new : Bytes} {n : ℕ} → w ≡ v → Stores v old n new → Stores w old n new
stores-same old {new} {n} q h = subst (λ (u : Verdict Bytes). Stores u old n new) (sym q) h

-- a refusal's line, of a number and a detail that are k and d
stores-line : (k d : ℕ) (old : Bytes) {number detail n : ℕ} {new : Bytes} → number ≡ k → detail ≡ d → 64 ≤ length old
    → n ≡ length (refusal_line number detail) → n ≤ 60 → new ≡ sets old 0 (refusal_line number detail) → Stores (refused k d) old n new
unfolding printed
stores-line k d old is of room e few s =
    let same = ap₂ refusal_line is of in
    let len = e ∙ ap length same in
    (len, s ∙ ap (sets old 0) same ∙ stored-first old (refusal_line k d) (omega (arith, len, few, room)))

pub returns-then-long : goal.returns-then-long
returns-then-long c =
    let e = c.put_refusal.ensures in
    stores-same c.args.out.now (is-long _ c.if-long.true) (stores-line 12 0 c.args.out.now c.number.ensures c.detail.ensures c.requires e.length e.short e.line)

pub returns-in-Ok : goal.returns-in-Ok
unfolding page_output printed written
returns-in-Ok c =
    let e = c.print_graph.ensures in
    let a = accepted-as length e.answer c.in-Ok.is in
    stores-same c.args.out.now (not-long _ c.if-long.false ∙ a.1) (a.2, e.output ∙ ap (λ (v : Verdict Bytes). overwrite c.args.out.now (written v)) a.1)

pub returns-in-Err : goal.returns-in-Err
unfolding page_output
returns-in-Err c =
    let e = c.print_graph.ensures in
    let f = c.put_refusal-in-Err.ensures in
    let r = c.in-Err.refusal in
    let old = c.args.out.now in
    let v = refused-as length e.answer c.in-Err.is in
    let same : c.print_graph.new.page ≡ old =
    e.output ∙ ap (λ (v : Verdict Bytes). overwrite old (written v)) v ∙ sym (refused-output old (number_of r) (detail_of r)) in
    stores-same old (not-long _ c.if-long.false ∙ v)
    (stores-line (number_of r) (detail_of r) old c.number-in-Err.ensures c.detail-in-Err.ensures c.requires f.length f.short (f.line ∙ ap (λ (o : Bytes). sets o 0 (refusal_line c.number-in-Err.result c.detail-in-Err.result)) same))
