-- Edges more of the lines.
use Rattle.std.proofs.Common.{◌≡◌, ◌-◌, ◌<◌, Bool, true, false, ◌||◌, List, [], ◌∷◌, ◌++◌, length, get_or, Some, refl, sym, ap, ◌∙◌, arith}
use Rattle.std.proofs.lemmas.List.Folds.{list_any-append}
use Rattle.std.specs.Prelude.{not}
use Rattle.std.specs.List.{list_any}
use Rattle.pr_wire.specs.declared.Edge.{Edge}
use Rattle.pr_wire.specs.declared.Levels.{Levels}
use Rattle.pr_report.specs.declared.oddities.LinesSeen.{LinesSeen}
use Rattle.pr_report.specs.Oddities.{first_levels, is_attention, last_levels, levels_after}
use Rattle.pr_report.specs.Steps.{first_or}
use Rattle.pr_report.specs.Taking.{HasPulses, HasSeen}

or-false : (b : Bool) → (b || false) ≡ b
or-false true = refl
or-false false = refl

-- attention comes in edges with one more, if it came in them or this one has it
attention-more : (es : List Edge) (e : Edge) → list_any is_attention (es ++ e ∷ []) ≡ (list_any is_attention es || not e.levels.atn)
attention-more es e = list_any-append is_attention es (e ∷ []) ∙ ap (λ b. list_any is_attention es || b) (or-false (not e.levels.atn))

-- the first levels stay
first-more : (es : List Edge) (e : Edge) → first_levels (es ++ e ∷ []) ≡ Some (first_or (first_levels es) e.levels)
first-more [] e = refl
first-more (x ∷ es) e = refl

-- the last ones are those of this edge
after-more : (l : Levels) (es : List Edge) (e : Edge) → levels_after l (es ++ e ∷ []) ≡ e.levels
after-more l [] e = refl
after-more l (x ∷ es) e = after-more x.levels es e

last-more : (es : List Edge) (e : Edge) → last_levels (es ++ e ∷ []) ≡ Some e.levels
last-more [] e = refl
last-more (x ∷ es) e = ap (λ (l : Levels). Some l) (after-more x.levels es e)

pub seen-more : (old new : LinesSeen) (e : Edge) → new.has_attention ≡ (old.has_attention || not e.levels.atn)
    → new.first ≡ Some (first_or old.first e.levels) → new.last ≡ Some e.levels
    → ((es : List Edge) → HasPulses es old.pulses → HasPulses (es ++ e ∷ []) new.pulses)
    → (es : List Edge) → HasSeen es old → HasSeen (es ++ e ∷ []) new
seen-more old new e attention first last pulses = λ es h. record {
  attention = attention ∙ (ap (λ b. b || not e.levels.atn) h.attention ∙ sym (attention-more es e));
  first = first ∙ (ap (λ o. Some (first_or o e.levels)) h.first ∙ sym (first-more es e));
  last = last ∙ sym (last-more es e);
  pulses = pulses es h.pulses;
}

-- edges more
first-many : (es fs : List Edge) (e : Edge) → first_levels (es ++ e ∷ fs) ≡ Some (first_or (first_levels es) e.levels)
first-many [] fs e = refl
first-many (x ∷ es) fs e = refl

after-many : (l : Levels) (es fs : List Edge) → levels_after l (es ++ fs) ≡ levels_after (levels_after l es) fs
after-many l [] fs = refl
after-many l (x ∷ es) fs = after-many x.levels es fs

last-many : (es fs : List Edge) (e : Edge) → last_levels (es ++ e ∷ fs) ≡ Some (levels_after e.levels fs)
last-many [] fs e = refl
last-many (x ∷ es) fs e = ap (λ (l : Levels). Some l) (after-many x.levels es (e ∷ fs))

-- the last of them
last-at : (e d : Edge) (fs : List Edge) → (get_or (e ∷ fs) (length fs) d).levels ≡ levels_after e.levels fs
last-at e d [] = refl
last-at e d (f ∷ fs) = last-at f d fs

pub many-seen : (old new : LinesSeen) (fs : List Edge) (a d : Edge) → 0 < length fs → new.has_attention ≡ (old.has_attention || list_any is_attention fs)
    → new.first ≡ Some (first_or old.first (get_or fs 0 a).levels) → new.last ≡ Some (get_or fs (length fs - 1) d).levels
    → ((es : List Edge) → HasPulses es old.pulses → HasPulses (es ++ fs) new.pulses)
    → (es : List Edge) → HasSeen es old → HasSeen (es ++ fs) new
many-seen old new [] a d some attention first last pulses = absurd (omega (arith, some))
many-seen old new (e ∷ fs) a d some attention first last pulses = λ es h.
    let at : length (e ∷ fs) - 1 ≡ length fs = omega arith in
    record {
      attention = attention ∙ (ap (λ b. b || list_any is_attention (e ∷ fs)) h.attention ∙ sym (list_any-append is_attention es (e ∷ fs)));
      first = first ∙ (ap (λ o. Some (first_or o e.levels)) h.first ∙ sym (first-many es fs e));
      last = last
          ∙ (ap (λ i. Some (get_or (e ∷ fs) i d).levels) at
          ∙ (ap (λ (l : Levels). Some l) (last-at e d fs) ∙ sym (last-many es fs e)));
      pulses = pulses es h.pulses;
    }
