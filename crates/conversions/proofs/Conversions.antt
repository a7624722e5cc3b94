-- A book in bytes as another version: it is accepted, back again it is the first bytes, and no call answers otherwise on it. Assumes nothing.
use Rattle.base.specs.Basics.{◌≡◌, refl, subst, sym, ap, ap₂, ◌∙◌, false, true, Option, none, List, [], ◌∷◌, ◌++◌, ℕ, ◌<◌, ◌≤◌, T, leb, le→leb}
use Rattle.base.specs.Basics.{length, lt-leb}
use Rattle.fields.specs.Field.{AllBytes}
use Rattle.rules.specs.Bearers.{borne}
use Rattle.rules.specs.Book.{Book, find}
use Rattle.rules.specs.Calls.{reduction}
use Rattle.rules.specs.Day.{call_due, printed_level, state}
use Rattle.rules.specs.Levels.{Limits, afternoon_level, buys, called_in, flagged, holding, morning_level, party_to, sells, short_of_cover}
use Rattle.rules.specs.Queries.{Query, Reply, about_query, found, only_number, reply_after}
use Rattle.rules.specs.Questions.{Question, after, first_of, refusal, version_known}
use Rattle.rules.specs.Reduction.{eligible, target}
use Rattle.laws.specs.Sound.{Sound}
use Rattle.laws.proofs.Refusals.{after-append, after_nonzero, refusal_next, yes_first}
use Rattle.book_format.specs.Book.{book_of, bytes_of, version_of}
use Rattle.book_format.specs.Questions.{about_bytes, book_number}
use Rattle.book_format.proofs.Formed.{book_passed}
use Rattle.book_format.proofs.Passed.{passed}
use Rattle.book_format.proofs.Round.{bytes_of_book_of}
use Rattle.book_format.proofs.Written.{all_bytes_bytes_of, book_of_bytes_of, written_number}
use Rattle.requests.specs.Cancellation.{Cancellation, about_cancellation, cancellation_after, cancellation_in, cancelled, cancelled_for, marks_of, not_cancelled, search_for, tries_in_range, whole_worth, worth_suffices}
use Rattle.requests.specs.Request.{Act, Outcome, Setting, act_by, act_of, enquiry_after, limits_on, opening, opening_in, request, request_given, request_in, setting_of}
use Rattle.store.specs.Store.{store_number}
use Rattle.sequence.proofs.Sequence.{Left, left_of}
use Rattle.outputs.specs.Output.{accepted, refused, written}
use Rattle.conversions.specs.Conversion.{about_conversion, as_version, conversion, converted, kept, nothing_lost, room_for}
use Rattle.conversions.specs.Statements.{Alike, Back, Conversions, Convertible, NothingLost}
use Rattle.conversions.proofs.Acts.{act_alike, outcome_as}
use Rattle.conversions.proofs.Alike.{about_alike, found_alike, query_alike}
use Rattle.conversions.proofs.Kept.{own_kept, sound_as, upward_kept}
use Rattle.user_levels.specs.Levels.{AllLevels, all_levels_after, levels_after, levels_in, levels_of, no_levels, user_rows}

-- a whole cancellation on a book as a version: its questions and its answer
asked_alike : (limits : Limits) (v : ℕ) (b : Book) (id tries : ℕ) → about_cancellation limits (as_version v b) id tries ≡ about_cancellation limits b id tries
unfolding about_cancellation worth_suffices whole_worth target afternoon_level holding borne eligible sells as_version
asked_alike limits v b id tries =
    ap (λ (qs : List Question). tries_in_range tries ∷ (qs ++ (worth_suffices b (find b.users id) (target limits b (find b.users id)) ∷ []))) (about_alike limits v b (reduction id))

cancelled_alike : (limits : Limits) (v : ℕ) (b : Book) (id tries : ℕ)
    → cancelled limits (as_version v b) (find (as_version v b).users id) tries ≡ cancelled limits b (find b.users id) tries
unfolding cancelled cancelled_for search_for marks_of whole_worth target afternoon_level holding borne eligible sells as_version
cancelled_alike limits v b id tries = refl

-- what a request without a log gives on accepted bytes, by the rules
left : (store : Option (List ℕ)) (a : Act) (x : List ℕ) → AllBytes x → book_number x ≡ 0
    → Left (record { asked = act_of store none a; given = x; gave = request (act_of store none a) x })
left store a x w h =
    left_of (record { asked = act_of store none a; given = x; gave = request (act_of store none a) x }) w h (record { answer = refl; bytes = refl }) refl refl

-- ---- the questions

module _ (v : ℕ) (s out : List ℕ) where
  -- of an accepted book those of the conversion are asked
  own_questions : book_number s ≡ 0 → refusal (about_bytes s ++ about_conversion v s out) ≡ refusal (about_conversion v s out)
  own_questions h = refusal_next (about_bytes s) (about_conversion v s out) (book_passed s h)

  -- of a known target to which nothing is lost, room is asked for
  room_asked_lem : T (version_known v) → T (kept v (book_of s)) → refusal (about_conversion v s out) ≡ refusal (room_for (converted v s) out ∷ [])
  unfolding about_conversion
  room_asked_lem k l =
      yes_first 23 (version_known v) (nothing_lost v s ∷ (room_for (converted v s) out ∷ [])) k
      ∙ yes_first 21 (kept v (book_of s)) (room_for (converted v s) out ∷ []) l

  refused_first : (book_number s ≡ 0 → ⊥) → conversion v s out ≡ refused out (book_number s)
  unfolding conversion written book_number
  refused_first h = after-append (about_bytes s) (about_conversion v s out) _ _ ∙ after_nonzero _ _ h

  refused_unknown : book_number s ≡ 0 → version_known v ≡ false → conversion v s out ≡ refused out 23
  unfolding conversion written after about_conversion refusal
  refused_unknown h k = rw (own_questions h, k)

  refused_lost : book_number s ≡ 0 → version_known v ≡ true → kept v (book_of s) ≡ false → conversion v s out ≡ refused out 21
  unfolding conversion written after about_conversion refusal
  refused_lost h k l = rw (own_questions h, k, l)

module _ {v : ℕ} {s : List ℕ} (c : Convertible v s) (out : List ℕ) where
  conversion_given : length (converted v s) ≤ length out → conversion v s out ≡ accepted (converted v s) out
  unfolding conversion written after refusal
  conversion_given k =
      rw (own_questions v s out c.accepted, room_asked_lem v s out c.known c.lossless, yes_first 22 (leb (length (converted v s)) (length out)) [] (le→leb (length (converted v s)) (length out) k))

  refused_narrow : length out < length (converted v s) → conversion v s out ≡ refused out 22
  unfolding conversion written after refusal
  refused_narrow k =
      rw (own_questions v s out c.accepted, room_asked_lem v s out c.known c.lossless, lt-leb (length (converted v s)) (length out) k)

-- ---- there and back

-- a book as its own version
pub copied : (s : List ℕ) → AllBytes s → book_number s ≡ 0 → converted (version_of s) s ≡ s
unfolding converted as_version book_of
copied s b h = bytes_of_book_of s b (passed s h)

module _ {v : ℕ} {s : List ℕ} (c : Convertible v s) where
  -- the book, and the bytes as the version
  abbrev b : Book
  b = book_of s

  abbrev t : List ℕ
  t = converted v s

  sound : Sound b
  sound = (passed s c.accepted).sound

  sound_there : Sound (as_version v b)
  sound_there = sound_as b sound v c.known c.lossless

  -- they are bytes that pass every question and hold the book as the version
  bytes_there : AllBytes t
  unfolding converted
  bytes_there = all_bytes_bytes_of (as_version v b)

  number_there : book_number t ≡ 0
  unfolding converted
  number_there = written_number (as_version v b) sound_there

  pub book_there : book_of t ≡ as_version v b
  unfolding converted
  book_there = book_of_bytes_of (as_version v b) sound_there

  version_there : version_of t ≡ v
  unfolding book_of as_version
  version_there = ap (λ (n : Book). n.header.version) book_there

  -- ---- and back

  convertible_back : Convertible (version_of s) t
  unfolding book_of as_version kept
  convertible_back =
      record {
        bytes = bytes_there;
        accepted = number_there;
        known = (passed s c.accepted).form.version;
        lossless = subst (λ (n : Book). T (kept (version_of s) n)) (sym book_there) (own_kept (book_of s) sound);
      }

  first_bytes : converted (version_of s) t ≡ s
  unfolding converted as_version book_of
  first_bytes = ap (λ (n : Book). bytes_of (as_version (version_of s) n)) book_there ∙ bytes_of_book_of s c.bytes (passed s c.accepted)

  pub round : Back v s
  round =
      record {
        version_of_converted = version_there;
        there = convertible_back;
        back = first_bytes;
        given = λ out k.
            conversion_given convertible_back out (rw first_bytes k) ∙ ap (λ (x : List ℕ). accepted x out) first_bytes;
      }

  -- ---- calls, queries, whole cancellations

  pub requests_alike : (store : Option (List ℕ)) (a : Act) → Alike v (request (act_of store none a) t) (request (act_of store none a) s)
  unfolding converted outcome_as request_in act_by
  requests_alike store a =
      let g = setting_of store in
      let here = left store a s c.bytes c.accepted in
      let there = left store a t bytes_there number_there in
      let e : request_given (act_of store none a) (book_of t) ≡ outcome_as v (request_given (act_of store none a) b) = ap (request_given (act_of store none a)) book_there ∙ act_alike g v b a sound sound_there in
      record {
        answer = there.answer ∙ ap (λ (x : Outcome Book). x.answer) e ∙ sym here.answer;
        numbers = there.numbers ∙ ap (λ (x : Outcome Book). x.numbers) e ∙ sym here.numbers;
        bytes = there.bytes ∙ ap (λ (x : Outcome Book). bytes_of x.book) e ∙ ap (λ (x : Book). bytes_of (as_version v x)) (sym here.book);
        log = there.log ∙ ap (λ (x : Outcome Book). x.log) e ∙ sym here.log;
      }

  -- a query, the levels of all users and a whole cancellation after any opening number, by the book that the bytes hold; the date and the figures are the same
  replied : ℕ → Setting → Query → Book → Reply
  replied n g q x = after (first_of n (store_number g.store x.header.date)) only_number (after (refusal (about_query x q)) only_number (found (limits_on g x) x q))

  pub enquiries_alike : (n : ℕ) (g : Setting) (q : Query) → enquiry_after n g t q ≡ enquiry_after n g s q
  unfolding enquiry_after reply_after opening_in replied limits_on as_version
  enquiries_alike n g q =
      let limits = limits_on g b in
      ap (replied n g q) book_there
      ∙ ap₂ (λ (qs : List Question) (r : Reply). after (opening n g s) only_number (after (refusal qs) only_number r)) (query_alike limits v b q) (found_alike limits v b q)

  levelled : ℕ → Setting → Book → AllLevels
  levelled n g x = after (first_of n (store_number g.store x.header.date)) no_levels (levels_in (limits_on g x) x)

  pub levels_alike : (n : ℕ) (g : Setting) → all_levels_after n g t ≡ all_levels_after n g s
  unfolding all_levels_after levels_after opening_in levelled limits_on as_version levels_in user_rows levels_of state printed_level call_due short_of_cover called_in flagged afternoon_level morning_level holding borne party_to sells buys
  levels_alike n g = ap (levelled n g) book_there

  searched : ℕ → Setting → ℕ → ℕ → Book → Cancellation
  searched n g id tries x =
      after (first_of n (store_number g.store x.header.date)) not_cancelled
      (after (refusal (about_cancellation (limits_on g x) x id tries)) not_cancelled (cancelled (limits_on g x) x (find x.users id) tries))

  pub cancellations_alike : (n : ℕ) (g : Setting) (id tries : ℕ) → cancellation_in n g t id tries ≡ cancellation_in n g s id tries
  unfolding cancellation_in cancellation_after opening_in searched limits_on as_version
  cancellations_alike n g id tries =
      let limits = limits_on g b in
      ap (searched n g id tries) book_there
      ∙ ap₂ (λ (qs : List Question) (r : Cancellation). after (opening n g s) not_cancelled (after (refusal qs) not_cancelled r)) (asked_alike limits v b id tries) (cancelled_alike limits v b id tries)

  -- both pass the questions of the book
  same_number : book_number t ≡ book_number s
  same_number = number_there ∙ sym c.accepted

-- upward nothing is lost
nothing_lost_lem : NothingLost
unfolding book_of
nothing_lost_lem s h v k l = upward_kept (book_of s) (passed s h).sound v k l

pub conversions : Conversions
conversions =
    record {
      lossless = nothing_lost_lem;
      copy = copied;
      answers = λ v s out.
          record {
            gives = λ c k. conversion_given c out k;
            unaccepted = refused_first v s out;
            unknown = refused_unknown v s out;
            lost = refused_lost v s out;
            narrow = λ c k. refused_narrow c out k;
          };
      round = λ v s c. round c;
      requests = λ v s c store a. requests_alike c store a;
      enquiries = λ v s c g q. ap (λ (n : ℕ). enquiry_after n g (converted v s) q) (same_number c) ∙ enquiries_alike c (book_number s) g q;
      levels = λ v s c g. ap (λ (n : ℕ). all_levels_after n g (converted v s)) (same_number c) ∙ levels_alike c (book_number s) g;
      cancellations = λ v s c g id tries. ap (λ (n : ℕ). cancellation_in n g (converted v s) id tries) (same_number c) ∙ cancellations_alike c (book_number s) g id tries;
    }
