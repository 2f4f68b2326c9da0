-- A trace text checked as it is read: the bytes that came, and the lines written of them.
use Rattle.std.proofs.Common.{◌≡◌, ℕ, ◌+◌, ◌-◌, ◌≤◌, List, [], ◌∷◌, ◌++◌, length, ap, sym, ◌∙◌, arith, append-nil, length-append, Option, Some, None, Result, Ok, Err, take, drop, take-append-drop, append_assoc, subst}
use Rattle.std.specs.Prelude.{flat_map, codes, IsErrAnd, Vec}
use Rattle.std.specs.Global.{Global}
use Rattle.std.specs.Io.KnownBytes.{Consumes}
use Rattle.std.proofs.KnownBytes.{Consumes-trans}
use Rattle.std.proofs.lemmas.Grind.{flat_map-append}
use Rattle.pr_wire.specs.declared.Frame.{Frame}
use Rattle.pr_wire.specs.declared.checker.Checker.{Checker}
use Rattle.pr_wire.specs.Checked.{HasChecked}
use Rattle.pr_wire.specs.Checking.{with_frame}
use Rattle.pr_jobs.specs.declared.fault.CliFault.{CliFault}
use Rattle.pr_jobs.specs.FrameText.{frame_line, frame_lines}
use Rattle.pr_wire.specs.declared.checker.CheckFault.{CheckFault}
use Rattle.pr_wire.specs.declared.checker.CheckFault.TheVariants.{BadLine, Unlawful}
use Rattle.pr_wire.specs.Checking.{AnswersText}
use Rattle.pr_jobs.specs.Check.{IsLawfulText}
use Rattle.pr_jobs.specs.Faults.{fault_of_check}
use Rattle.pr_jobs.specs.FrameLinesTold.{HasTold, line_if, GivesLines}

-- one frame more is one line more
pub one_line_more : (frames : List Frame) (f : Option Frame) (lines : List ℕ) → lines ≡ flat_map frame_line frames → lines ++ line_if f ≡ flat_map frame_line (with_frame frames f)
one_line_more frames None lines h = append-nil lines ∙ h
one_line_more frames (Some f) lines h =
    ap (λ l. l ++ frame_line f) h ∙ (ap (λ l. flat_map frame_line frames ++ l) (sym (append-nil (frame_line f))) ∙ sym (flat_map-append frame_line frames (f ∷ [])))

-- the bytes that came from a reader, with the lines written of them, and how many more may come
pub record HasRead (limit : ℕ) (before after : Option (List ℕ)) (lines : List ℕ) (c : Checker) (left : ℕ) : Type 0 where
  pub text : List ℕ
  pub taken : Consumes before after text
  pub told : HasTold text lines c
  pub room : length text + left ≡ limit

-- the lines of a text that has ended
pub told_lines : (text lines all : List ℕ) (c : Checker) (last : Option Frame) → (t : HasTold text lines c) → AnswersText text t.frames (Ok last)
    → all ≡ lines ++ line_if last ++ codes "lawful\n" → (frames : List Frame) × IsLawfulText text frames × (all ≡ frame_lines frames)
unfolding frame_lines
told_lines text lines all c last t a e =
    (with_frame t.frames last, record { edges = a.0; is_text = a.1; spelled = a.2 }, e ∙ ap (λ l. l ++ codes "lawful\n") (one_line_more t.frames last lines t.told))

-- the fault of a text that has ended
pub told_fault : (limit : ℕ) (text lines : List ℕ) (c : Checker) (fault : CheckFault) (r : Result (Vec ℕ Global) CliFault) → length text ≤ limit → (t : HasTold text lines c)
    → AnswersText text t.frames (Err fault) → IsErrAnd r (λ f. f ≡ fault_of_check fault) → GivesLines limit r text
told_fault limit text lines c fault (Ok v) h t a e = absurd e
told_fault limit text lines c (BadLine n) (Err f) h t a e = rw e (h, a)
told_fault limit text lines c (Unlawful w) (Err f) h t a e = rw e (h, record { edges = a.0; is_text = a.1; is_fault = a.2 })

-- one block more
pub read_more : (limit : ℕ) (a b d : Option (List ℕ)) (lines all : List ℕ) (c e : Checker) (left n : ℕ) (block : List ℕ) → (r : HasRead limit a b lines c left) → Consumes b d block → length block ≡ n → n ≤ left
    → ((text : List ℕ) → HasTold text lines c → HasTold (text ++ block) all e) → HasRead limit a d all e (left - n)
read_more limit a b d lines all c e left n block r k l w f = record {
  text = r.text ++ block;
  taken = Consumes-trans a b d r.text block r.taken k;
  told = f r.text r.told;
  room = omega (arith, length-append r.text block, r.room);
}

-- a front of a block was taken, and its lines written
pub record TellsFront (block rest old : List ℕ) (c : Checker) (new : List ℕ) (d : Checker) : Type 0 where
  pub front : List ℕ
  pub whole : block ≡ front ++ rest
  pub told : (text : List ℕ) → HasTold text old c → HasTold (text ++ front) new d

-- some bytes more, and perhaps a frame
pub tells_more : (block rest old mid new : List ℕ) (c d e : Checker) (n : ℕ) (f : Option Frame) → TellsFront block rest old c mid d → new ≡ mid ++ line_if f
    → ((text : List ℕ) (frames : List Frame) → HasChecked text frames d → HasChecked (text ++ take n rest) (with_frame frames f) e) → TellsFront block (drop n rest) old c new e
tells_more block rest old mid new c d e n f t k h = record {
  front = t.front ++ take n rest;
  whole = t.whole ∙ (ap (λ l. t.front ++ l) (sym (take-append-drop n rest)) ∙ sym (append_assoc t.front (take n rest) (drop n rest)));
  told = λ text u.
      let v = t.told text u in
      record {
        frames = with_frame v.frames f;
        checked = subst (λ l. HasChecked l (with_frame v.frames f) e) (append_assoc text t.front (take n rest)) (h (text ++ t.front) v.frames v.checked);
        told = k ∙ one_line_more v.frames f mid v.told;
      };
}
