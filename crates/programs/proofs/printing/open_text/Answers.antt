-- `printing::open_text`: the line and the words that it answers are the text of the book's formula, or the line of its refusal, 12 first
-- where the book is too long.
use Rattle.std.proofs.Common.{sym, ap, ap₂, ◌∙◌, ℕ, arith, List, [], ◌++◌, length, take, ℤ}
use Rattle.std.proofs.lemmas.List.Edits.{sets}
use Rattle.model.specs.Refusals.{number_of, detail_of}
use Rattle.spec.specs.Lists.{Bytes, Verdict}
use Rattle.spec.specs.Held.{held_cap}
use Rattle.spec.specs.Entry.{Written, write_formula, formula_text}
use Rattle.spec.specs.Programs.{printed, refusal_line}
use Rattle.writing.specs.FormulaAnswers.{totals_of}
use Rattle.laws.proofs.Answers.{refused-as, accepted-as}
use Rattle.programs.specs.Text.{words_text, header_text}
use Rattle.programs.specs.Opening.{first_line, words_behind}
use Rattle.programs.proofs.FormulaProgram.{is-long, not-long}
use Rattle.programs.proofs.Texts.{long-text, long-words, output-words, line-front, refusal-text, formula-text, count_fits}
use Rattle.programs.proofs.printing.open_text.Goals as goal

pub returns-then-long : goal.returns-then-long
returns-then-long c =
    let h = c.if-long.true in
    let e = c.put_refusal.ensures in
    let line = c.args.line.now in
    let room = length c.args.words.now in
    let v = write_formula (held_cap c.args.cap) c.args.book.now room in
    let same = ap₂ refusal_line c.number.ensures c.detail.ensures in
    let len = e.length ∙ ap length same in
    let stores = e.line ∙ ap (sets line 0) same in
    let k = sym (is-long v h) in (
      ap (λ (l : Bytes). l ++ words_text []) (line-front line (refusal_line 12 0) c.requires len e.short stores)
          ∙ long-text (formula_text (held_cap c.args.cap) c.args.book.now room) h,
      stores ∙ ap (λ (u : Verdict Written). sets line 0 (first_line u)) k,
      omega (arith, e.short),
      long-words c.args.words.now v h,
      omega arith,
      len ∙ ap (λ (u : Verdict Written). length (first_line u)) k,
      ap words_behind k,
    )

pub returns-in-Ok : goal.returns-in-Ok
returns-in-Ok c =
    let h = c.if-long.false in
    let e = c.put_header.ensures in
    let w = c.write_formula.ensures in
    let cap = held_cap c.args.cap in
    let book = c.args.book.now in
    let old = c.args.words.now in
    let line = c.args.line.now in
    let t = c.in-Ok.totals in
    let a = accepted-as totals_of w.answer c.in-Ok.is in
    let k = sym (not-long (write_formula cap book (length old)) h ∙ a.1) in
    let same = ap (λ t. header_text t.variables t.clauses) a.2 in
    let count = ap (λ t. t.words) a.2 in (
      ap₂ (λ (l : Bytes) (ls : List ℤ). l ++ words_text ls)
          (line-front line (header_text t.variables t.clauses) c.requires e.0 e.1 e.2 ∙ same)
          (ap₂ (λ (n : ℕ) (ls : List ℤ). take n ls) count w.output)
          ∙ formula-text cap book old a.0 a.1
          ∙ ap (λ (u : Verdict Bytes). printed (λ (t : Bytes). t) u) (sym (not-long (formula_text cap book (length old)) h)),
      e.2 ∙ ap (sets line 0) (same ∙ ap first_line k),
      omega (arith, e.1),
      w.output ∙ output-words cap book old h,
      omega (arith, count, count_fits cap book old a.0 a.1),
      e.0 ∙ ap length (same ∙ ap first_line k),
      count ∙ ap words_behind k,
    )

pub returns-in-Err : goal.returns-in-Err
returns-in-Err c =
    let h = c.if-long.false in
    let e = c.put_refusal-in-Err.ensures in
    let w = c.write_formula.ensures in
    let cap = held_cap c.args.cap in
    let book = c.args.book.now in
    let old = c.args.words.now in
    let line = c.args.line.now in
    let r = c.in-Err.refusal in
    let same = ap₂ refusal_line c.number-in-Err.ensures c.detail-in-Err.ensures in
    let len = e.length ∙ ap length same in
    let stores = e.line ∙ ap (sets line 0) same in
    let v = refused-as totals_of w.answer c.in-Err.is in
    let k = sym (not-long (write_formula cap book (length old)) h ∙ v) in (
      ap (λ (l : Bytes). l ++ words_text []) (line-front line (refusal_line (number_of r) (detail_of r)) c.requires len e.short stores)
          ∙ refusal-text cap book _ v
          ∙ ap (λ (u : Verdict Bytes). printed (λ (t : Bytes). t) u) (sym (not-long (formula_text cap book (length old)) h)),
      stores ∙ ap (λ (u : Verdict Written). sets line 0 (first_line u)) k,
      omega (arith, e.short),
      w.output ∙ output-words cap book old h,
      omega arith,
      len ∙ ap (λ (u : Verdict Written). length (first_line u)) k,
      ap words_behind k,
    )
