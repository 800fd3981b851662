-- Lines and answers, one more at the end.
use Rattle.std.proofs.Common.{
  ◌≡◌,
  ℕ,
  List,
  [],
  ◌∷◌,
  ◌++◌,
  Bool,
  true,
  false,
  Option,
  Some,
  None,
  length,
  take,
  refl,
  sym,
  ap,
  subst,
  ◌∙◌,
  inl,
  inr,
  append_assoc,
  append-nil,
  take_all,
  arith,
  if◌then◌else◌,
  ◌+◌,
  Result,
  Ok,
  Err,
}
use Rattle.std.proofs.Math.Seq.{take-append-add}
use Rattle.std.specs.Prelude.{IfOk, OnErr, is_some}
use Rattle.fault_io.specs.Writing.{Appends, WritesFront}
use Rattle.fault_io.proofs.Fronts.{appends_more, appends_none}
use Rattle.history_read.specs.Grammar.{lines_of}
use Rattle.store_server.specs.Answers.{StepAnswer}
use Rattle.store_server.specs.Serving.{Served, AreAnswered, ComesTo, answer_text, served_after}
use Rattle.store_server.specs.Closing.{IsClosing}
use Rattle.store_lines.specs.Lines.{line_of}
use Rattle.store_serving.specs.Lines.{ReadsLine, pending}
use Rattle.store_serving.specs.Serving.{AreAllLines, AreFirstLines, CutsLine, EndsLines, ServesAll, ServesFront, ServesLine, ServesNext, StopsIn, WritesPart, before_end, is_end, texts_of, unserved}
use Rattle.store_serving.specs.Steps.Going.{AreRead, Closes, CutsClosing, GoOn, HasServed, WritesPartOfEnd}

-- ---- answers

one_more : (s t : Served) (lines : List (List ℕ)) (answers : List StepAnswer) (line : List ℕ) (answer : StepAnswer)
    → AreAnswered s lines answers t → ComesTo t.fenced t.opened (line_of line) answer
    → AreAnswered s (lines ++ line ∷ []) (answers ++ answer ∷ []) (served_after t answer)
one_more s t [] [] line answer are comes =
    (subst (λ (u : Served). ComesTo u.fenced u.opened (line_of line) answer) (sym are) comes, ap (λ (u : Served). served_after u answer) are)
one_more s t [] (a ∷ answers) line answer are comes = absurd are
one_more s t (l ∷ lines) [] line answer are comes = absurd are
one_more s t (l ∷ lines) (a ∷ answers) line answer are comes = (are.0, one_more (served_after s a) t lines answers line answer are.1 comes)

texts_more : (s t : Served) (lines : List (List ℕ)) (answers : List StepAnswer) (answer : StepAnswer) → AreAnswered s lines answers t
    → texts_of s (answers ++ answer ∷ []) ≡ texts_of s answers ++ answer_text t answer
texts_more s t [] [] answer are = append-nil (answer_text s answer) ∙ ap (λ (u : Served). answer_text u answer) are
texts_more s t [] (a ∷ answers) answer are = absurd are
texts_more s t (l ∷ lines) [] answer are = absurd are
texts_more s t (l ∷ lines) (a ∷ answers) answer are =
    ap (λ text. answer_text s a ++ text) (texts_more (served_after s a) t lines answers answer are.1)
    ∙ sym (append_assoc (answer_text s a) (texts_of (served_after s a) answers) (answer_text t answer))

-- ---- lines

goes_on : (lines : List (List ℕ)) (line : List ℕ) → GoOn lines → is_end line ≡ false → GoOn (lines ++ line ∷ [])
goes_on [] line go is = (is, tt)
goes_on (l ∷ lines) line go is = (go.0, goes_on lines line go.1 is)

read_more : (input left later : Option (List ℕ)) (lines : List (List ℕ)) (line : List ℕ) → AreRead input left lines → ReadsLine left later (Some line)
    → AreRead input later (lines ++ line ∷ [])
read_more None None None lines line read reads = tt
read_more None None (Some z) lines line read reads = absurd reads
read_more None (Some y) later lines line read reads = absurd read
read_more (Some x) None later lines line read reads = absurd read
read_more (Some x) (Some y) None lines line read reads = absurd reads
read_more (Some x) (Some y) (Some z) lines line read reads =
    read ∙ ap (λ (l : List (List ℕ)). lines ++ l) reads ∙ sym (append_assoc lines (line ∷ []) (lines_of z))

first_lines : (input left : Option (List ℕ)) (lines : List (List ℕ)) → AreRead input left lines → AreFirstLines input lines
first_lines None left lines read = tt
first_lines (Some x) None lines read = absurd read
first_lines (Some x) (Some y) lines read = (lines_of y, read)

before_more : (lines more : List (List ℕ)) → GoOn lines → before_end (lines ++ more) ≡ lines ++ before_end more
before_more [] more go = refl
before_more (line ∷ lines) more go =
    ap (λ (b : Bool). if b then [] else line ∷ before_end (lines ++ more)) go.0 ∙ ap (λ (l : List (List ℕ)). line ∷ l) (before_more lines more go.1)

all_lines : (input left : Option (List ℕ)) (lines : List (List ℕ)) → GoOn lines → AreRead input left lines → AreAllLines left [] → AreAllLines input lines
all_lines None left lines go read ends = tt
all_lines (Some x) None lines go read ends = absurd read
all_lines (Some x) (Some y) lines go read ends =
    ap before_end read ∙ before_more lines (lines_of y) go ∙ ap (λ (l : List (List ℕ)). lines ++ l) ends ∙ append-nil lines

-- ---- what was served

pub none_served : (fenced : Bool) (input left written : Option (List ℕ)) (now : Served) → left ≡ input → now ≡ unserved fenced → HasServed fenced input left written written now
none_served fenced input left written now same is = record {
  lines = [];
  answers = [];
  answered = sym is;
  go_on = tt;
  read = subst (λ (o : Option (List ℕ)). AreRead input o []) (sym same) (nothing input);
  written = appends_none written;
}
  where
    nothing : (o : Option (List ℕ)) → AreRead o o []
    nothing None = tt
    nothing (Some x) = refl

pub serves_more : (fenced : Bool) (input left later first before after : Option (List ℕ)) (now next : Served)
    → HasServed fenced input left first before now → ServesLine now next left later before after → HasServed fenced input later first after next
serves_more fenced input left later first before after now next has serves =
    let answer : StepAnswer = serves.step.answer in
    let texts = texts_of (unserved fenced) has.answers in
    let both : Appends first after (texts ++ serves.text) = appends_more first before after texts serves.text has.written serves.written in
    let printed : texts ++ serves.text ≡ texts_of (unserved fenced) (has.answers ++ answer ∷ []) =
    ap (λ text. texts ++ text) serves.step.printed ∙ sym (texts_more (unserved fenced) now has.lines has.answers answer has.answered) in
    record {
      lines = has.lines ++ serves.line ∷ [];
      answers = has.answers ++ answer ∷ [];
      answered = subst (λ (t : Served). AreAnswered (unserved fenced) (has.lines ++ serves.line ∷ []) (has.answers ++ answer ∷ []) t) (sym serves.step.leaves)
          (one_more (unserved fenced) now has.lines has.answers serves.line answer has.answered serves.step.comes);
      go_on = goes_on has.lines serves.line has.go_on serves.goes_on;
      read = read_more input left later has.lines serves.line has.read serves.read;
      written = subst (λ (text : List ℕ). Appends first after text) printed both;
    }

written_all : (old new : Option (List ℕ)) (bytes : List ℕ) → Appends old new bytes → WritesPart old new bytes
written_all old new bytes is = record { count = length bytes; appended = subst (λ (l : List ℕ). Appends old new l) (sym (take_all (length bytes) bytes (omega arith))) is }

-- what was written before, and then a part
part_after : (first before after : Option (List ℕ)) (xs ys : List ℕ) → Appends first before xs → WritesPart before after ys → WritesPart first after (xs ++ ys)
part_after first before after xs ys is part =
    record {
      count = length xs + part.count;
      appended = subst (λ (l : List ℕ). Appends first after l) (sym (take-append-add xs ys part.count)) (appends_more first before after xs (take part.count ys) is part.appended);
    }

pub front_is_part : (old new : Option (List ℕ)) (bytes : List ℕ) → WritesFront old new bytes → WritesPart old new bytes
front_is_part old new bytes front = record { count = front.count; appended = front.appended }

-- ---- the end

pub serves_all : (fenced begun : Bool) (input left first before middle after : Option (List ℕ)) (now next : Served)
    → HasServed fenced input left first before now → EndsLines now next left before middle → Closes next middle after begun
    → ServesAll fenced begun input first after
serves_all fenced begun input left first before middle after now next has ends closes =
    let texts = texts_of (unserved fenced) has.answers in
    let here : Appends before after closes.closing = subst (λ (o : Option (List ℕ)). Appends o after closes.closing) ends.unwritten closes.written in
    record {
      lines = has.lines;
      answers = has.answers;
      last = now;
      closing = closes.closing;
      read = all_lines input left has.lines has.go_on has.read ends.read;
      answered = has.answered;
      closes = subst (λ (s : Served). IsClosing s.opened closes.closing) ends.same closes.closes;
      written = appends_more first before after texts closes.closing has.written here;
      begins = closes.begins ∙ ap (λ (s : Served). is_some s.opened) ends.same;
    }

-- answers alone were written
stops_after : (fenced : Bool) (input left first before after : Option (List ℕ)) (now : Served)
    → HasServed fenced input left first before now → after ≡ before → ServesFront fenced input first after
stops_after fenced input left first before after now has same =
    let texts = texts_of (unserved fenced) has.answers in
    record {
      lines = has.lines;
      answers = has.answers;
      last = now;
      text = texts;
      read = first_lines input left has.lines has.read;
      answered = has.answered;
      output = inl refl;
      written = written_all first after texts (subst (λ (o : Option (List ℕ)). Appends first o texts) (sym same) has.written);
    }

cuts_line : (fenced : Bool) (input left first before after : Option (List ℕ)) (now : Served)
    → HasServed fenced input left first before now → CutsLine now left before after → ServesFront fenced input first after
cuts_line fenced input left first before after now has cut =
    let answer : StepAnswer = cut.step.answer in
    let texts = texts_of (unserved fenced) has.answers in
    let more = has.answers ++ answer ∷ [] in
    let printed : texts ++ cut.text ≡ texts_of (unserved fenced) more =
    ap (λ text. texts ++ text) cut.step.printed ∙ sym (texts_more (unserved fenced) now has.lines has.answers answer has.answered) in
    record {
      lines = has.lines ++ cut.line ∷ [];
      answers = more;
      last = served_after now answer;
      text = texts ++ cut.text;
      read = first_lines input cut.left (has.lines ++ cut.line ∷ []) (read_more input left cut.left has.lines cut.line has.read cut.read);
      answered = one_more (unserved fenced) now has.lines has.answers cut.line answer has.answered cut.step.comes;
      output = inl printed;
      written = part_after first before after texts cut.text has.written cut.written;
    }

pub serves_front : (fenced : Bool) (input left first before after : Option (List ℕ)) (now : Served)
    → HasServed fenced input left first before now → StopsIn now left before after → ServesFront fenced input first after
serves_front fenced input left first before after now has (inl same) = stops_after fenced input left first before after now has same
serves_front fenced input left first before after now has (inr cut) = cuts_line fenced input left first before after now has cut

cuts_end : (fenced : Bool) (input left first before middle after : Option (List ℕ)) (now next : Served)
    → HasServed fenced input left first before now → EndsLines now next left before middle → WritesPartOfEnd next middle after → ServesFront fenced input first after
cuts_end fenced input left first before middle after now next has ends cut =
    let texts = texts_of (unserved fenced) has.answers in
    let here : WritesPart before after cut.closing = subst (λ (o : Option (List ℕ)). WritesPart o after cut.closing) ends.unwritten cut.written in
    record {
      lines = has.lines;
      answers = has.answers;
      last = now;
      text = texts ++ cut.closing;
      read = first_lines input left has.lines has.read;
      answered = has.answered;
      output = inr (cut.closing, subst (λ (s : Served). IsClosing s.opened cut.closing) ends.same cut.closes, refl);
      written = part_after first before after texts cut.closing has.written here;
    }

pub closes_front : (fenced : Bool) (input left first before middle after : Option (List ℕ)) (now next : Served)
    → HasServed fenced input left first before now → EndsLines now next left before middle → CutsClosing next middle after → ServesFront fenced input first after
closes_front fenced input left first before middle after now next has ends (inl same) =
    stops_after fenced input left first before after now has (same ∙ ends.unwritten)
closes_front fenced input left first before middle after now next has ends (inr cut) = cuts_end fenced input left first before middle after now next has ends cut

-- ---- what a call says

pub nothing_held : (held : List ℕ) (left : Option (List ℕ)) → held ≡ [] → pending held left ≡ left
nothing_held held None none = refl
nothing_held held (Some bytes) none = ap (λ l. Some (l ++ bytes)) none

pub on_error : {T E : Type 0} (r : Result T E) (P : Type 0) → P → OnErr r P
on_error (Ok x) P p = tt
on_error (Err e) P p = p

pub goes : (more : Bool) (old new : Served) (input left before after : Option (List ℕ)) → more ≡ true → ServesNext more old new input left before after
    → ServesLine old new input left before after
goes true old new input left before after is serves = serves
goes false old new input left before after is serves = absurd (cc)

ends_by : (more : Bool) (old new : Served) (input left before after : Option (List ℕ)) → more ≡ false → ServesNext more old new input left before after
    → EndsLines old new input before after
ends_by true old new input left before after is serves = absurd (cc)
ends_by false old new input left before after is serves = serves

pub all_if : {E : Type 0} (fenced more : Bool) (input left later first before middle after : Option (List ℕ)) (now next : Served) (r : Result Bool E)
    → HasServed fenced input left first before now → more ≡ false → ServesNext more now next left later before middle → IfOk r (Closes next middle after)
    → IfOk r (λ begun. ServesAll fenced begun input first after)
all_if fenced more input left later first before middle after now next (Err e) has is ends closes = tt
all_if fenced more input left later first before middle after now next (Ok begun) has is ends closes =
    serves_all fenced begun input left first before middle after now next has (ends_by more now next left later before middle is ends) closes

pub front_if : {E : Type 0} (fenced more : Bool) (input left later first before middle after : Option (List ℕ)) (now next : Served) (r : Result Bool E)
    → HasServed fenced input left first before now → more ≡ false → ServesNext more now next left later before middle → OnErr r (CutsClosing next middle after)
    → OnErr r (ServesFront fenced input first after)
front_if fenced more input left later first before middle after now next (Ok begun) has is ends cuts = tt
front_if fenced more input left later first before middle after now next (Err e) has is ends cuts =
    closes_front fenced input left first before middle after now next has (ends_by more now next left later before middle is ends) cuts
