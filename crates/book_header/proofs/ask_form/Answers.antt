-- `ask_form` asks the questions in their order and returns at the first that is answered by no. Assumes nothing.
use mathlib.Core.Path.{◌≡◌, sym, ◌∙◌}
use mathlib.Core.Bool.{true}
use mathlib.Core.List.{List}
use Prim.Native.Nat.{ℕ}
use borrow.Author.Tests.{not-true, not-false}
use Rattle.rules.specs.Questions.{after, refusal}
use Rattle.book_format.specs.Questions.{marked, versioned, about_form, form_number_of}
use Rattle.book_format.proofs.Formed.{marked_head}
use Rattle.book_header.proofs.ask_form.Goals as goal
use Rattle.book_header.proofs.ask_form.Goals.{After-is_marked, Else-not-is_marked, Else-not-is_versioned}

abbrev bytes : goal.After-is_marked → List ℕ
bytes c = c.args.s.now

is-marked : (c : goal.Else-not-is_marked) → marked (bytes (goal.at.Else-not-is_marked c).After-is_marked) ≡ true
is-marked c = sym c.is_marked.ensures ∙ not-false _ c.if-not-is_marked.false-raw

is-versioned : (c : goal.Else-not-is_versioned) → versioned (bytes (goal.at.Else-not-is_versioned c).After-is_marked) ≡ true
is-versioned c = sym c.is_versioned.ensures ∙ not-false _ c.if-not-is_versioned.false-raw

pub returns-then-not-is_marked : goal.returns-then-not-is_marked
unfolding form_number_of about_form refusal after
returns-then-not-is_marked c = simp (sym c.is_marked.ensures ∙ not-true _ c.if-not-is_marked.true-raw)

pub is_versioned-requires : goal.is_versioned-requires
is_versioned-requires c = marked_head (bytes (goal.at.is_versioned-requires c).After-is_marked) (rw (is-marked c) tt)

pub returns-then-not-is_versioned : goal.returns-then-not-is_versioned
unfolding form_number_of about_form refusal after
returns-then-not-is_versioned c = simp (is-marked (goal.at.returns-then-not-is_versioned c).Else-not-is_marked, sym c.is_versioned.ensures ∙ not-true _ c.if-not-is_versioned.true-raw)

pub is_sized-requires : goal.is_sized-requires
is_sized-requires c = marked_head (bytes (goal.at.is_sized-requires c).After-is_marked) (rw (is-marked (goal.at.is_sized-requires c).Else-not-is_marked) tt)

pub returns-then-not-is_sized : goal.returns-then-not-is_sized
unfolding form_number_of about_form refusal after
returns-then-not-is_sized c = simp (is-marked (goal.at.returns-then-not-is_sized c).Else-not-is_marked, is-versioned (goal.at.returns-then-not-is_sized c).Else-not-is_versioned, sym c.is_sized.ensures ∙ not-true _ c.if-not-is_sized.true-raw)

pub returns : goal.returns
unfolding form_number_of about_form refusal after
returns c = simp (is-marked (goal.at.returns c).Else-not-is_marked, is-versioned (goal.at.returns c).Else-not-is_versioned, sym c.is_sized.ensures ∙ not-false _ c.if-not-is_sized.false-raw)
