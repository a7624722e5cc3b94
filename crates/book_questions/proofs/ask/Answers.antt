-- `ask` returns the refusal of the form, or asks the fields of bytes of the right form. Assumes nothing.
use Rattle.base.specs.Basics.{◌≡◌, sym, ◌∙◌, rules}
use Rattle.refusals.proofs.Numbers.{refused-nonzero}
use Rattle.book_format.proofs.Formed.{formed, form_refused, form_passed}
use Rattle.book_format.specs.Questions.{form_number_of}
use Rattle.book_questions.specs.Asked.{fields_number_of}
use Rattle.book_questions.specs.Refused.{number_asked}
use Rattle.book_questions.proofs.Asked.{form_before, summed_none}
use Rattle.book_questions.proofs.Handed.{refused_before}
use Rattle.book_questions.proofs.ask.Goals as goal

pub returns-in_err-ask_form : goal.returns-in_err-ask_form
returns-in_err-ask_form c = let s = c.args.s.now in
    let before = refused_before _ _ c.from_residual.ensures.1 in
    let number : number_asked c.from_residual.result ≡ form_number_of s = before.0 ∙ c.in_err-ask_form.ensures in
    let refused : number_asked c.from_residual.result ≡ 0 → ⊥ = λ e. refused-nonzero _ (sym before.0 ∙ e) in
    rw before.1
    (record {
      asked_of = record { number = form_refused s _ number refused; placed = λ e. absurd (refused e) };
      summed = summed_none _ (form_before s number refused);
    })

pub ask_fields-requires : goal.ask_fields-requires
ask_fields-requires c = (formed c.args.s.now (sym c.in_ok-ask_form.ensures), search rules, search rules, search rules)

pub returns : goal.returns
unfolding fields_number_of
returns c = record {
  asked_of = record {
    number = c.ask_fields.ensures.fields_placed.asked ∙ sym (form_passed c.args.s.now (sym c.in_ok-ask_form.ensures));
    placed = c.ask_fields.ensures.fields_placed.placed;
  };
  summed = c.ask_fields.ensures.summed;
}
