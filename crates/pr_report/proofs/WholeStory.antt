-- The story of a whole list of edges.
use Rattle.std.proofs.Common.{◌≡◌, ℕ, ◌+◌, ◌<◌, ◌≤◌, Bool, false, List, [], ◌∷◌, ◌++◌, length, get_or, take, drop, Option, Some, None, refl, sym, subst, ap, ◌∙◌, add-one, append_assoc, append-nil}
use Rattle.std.proofs.Math.Seq.{take-suc}
use Rattle.std.proofs.lemmas.List.{drop_more, take-append-drop, take_all}
use Rattle.std.specs.Option.{option_to_list}
use Rattle.pr_wire.specs.declared.Edge.{Edge}
use Rattle.pr_wire.specs.declared.WaveFault.{WaveFault}
use Rattle.pr_wire.specs.Table.{fault_of}
use Rattle.pr_report.specs.declared.timed_frame.TimedFrame.{TimedFrame}
use Rattle.pr_report.specs.declared.frame_timer.FrameTimer.{FrameTimer}
use Rattle.pr_report.specs.Moments.{timed_frames}
use Rattle.pr_report.specs.StoryText.{is_data, last_line, story_line, story_lines, story_of}
use Rattle.pr_report.specs.FrameTiming.{HasTold, data_after, line_if, number_taken}

-- the first edges were taken, and the lines of their frames are after a text: whatever frames follow, all lines are these and those that come yet
pub record IsTelling (edges : List Edge) (n : ℕ) (s : FrameTimer) (old text : List ℕ) (behind_data : Bool) : Type 0 where
  pub given : List TimedFrame
  pub taken : HasTold (take n edges) given s
  pub count : number_taken s ≡ n
  pub lines : (more : List TimedFrame) → old ++ story_lines false (given ++ more) ≡ text ++ story_lines behind_data more

-- nothing was taken
pub telling-none : (edges : List Edge) (s : FrameTimer) (text : List ℕ) → HasTold [] [] s → number_taken s ≡ 0 → IsTelling edges 0 s text text false
telling-none edges s text h n = record { given = []; taken = h; count = n; lines = λ more. refl }

-- the first edges, with the next one
take-next : (edges : List Edge) (n : ℕ) (d : Edge) → n < length edges → take (n + 1) edges ≡ take n edges ++ get_or edges n d ∷ []
take-next edges n d h = rw (add-one, take-suc edges n d h) refl

-- one edge more that ends no frame
telling-silent : (edges : List Edge) (n : ℕ) (d : Edge) (s new : FrameTimer) (old text : List ℕ) (behind_data : Bool) → n < length edges
    → IsTelling edges n s old text behind_data
    → ((es : List Edge) (given : List TimedFrame) → HasTold es given s → HasTold (es ++ get_or edges n d ∷ []) (given ++ []) new)
    → number_taken new ≡ number_taken s + 1 → IsTelling edges (n + 1) new old text behind_data
telling-silent edges n d s new old text behind_data m h t k = record {
  given = h.given;
  taken = rw (take-next edges n d m) (subst (λ l. HasTold (take n edges ++ get_or edges n d ∷ []) l new) (append-nil h.given) (t (take n edges) h.given h.taken));
  count = k ∙ ap (λ l. l + 1) h.count;
  lines = h.lines;
}

-- one edge more, and the line of the frame that it ends
telling-frame : (edges : List Edge) (n : ℕ) (d : Edge) (s new : FrameTimer) (old text next : List ℕ) (behind_data : Bool) (f : TimedFrame) → n < length edges
    → IsTelling edges n s old text behind_data
    → ((es : List Edge) (given : List TimedFrame) → HasTold es given s → HasTold (es ++ get_or edges n d ∷ []) (given ++ f ∷ []) new)
    → number_taken new ≡ number_taken s + 1 → next ≡ text ++ story_line behind_data f → IsTelling edges (n + 1) new old next (is_data f.sending)
telling-frame edges n d s new old text next behind_data f m h t k l = record {
  given = h.given ++ f ∷ [];
  taken = rw (take-next edges n d m) (t (take n edges) h.given h.taken);
  count = k ∙ ap (λ l. l + 1) h.count;
  lines = λ more.
      ap (λ fs. old ++ story_lines false fs) (append_assoc h.given (f ∷ []) more)
      ∙ (h.lines (f ∷ more)
      ∙ (sym (append_assoc text (story_line behind_data f) (story_lines (is_data f.sending) more))
      ∙ ap (λ t. t ++ story_lines (is_data f.sending) more) (sym l)));
}

-- one edge more, and the line of the frame that it ends, if it ends one
pub telling-more : (edges : List Edge) (n : ℕ) (d : Edge) (s new : FrameTimer) (old text next : List ℕ) (behind_data behind : Bool) (frame : Option TimedFrame) → n < length edges
    → IsTelling edges n s old text behind_data
    → ((es : List Edge) (given : List TimedFrame) → HasTold es given s → HasTold (es ++ get_or edges n d ∷ []) (given ++ option_to_list frame) new)
    → number_taken new ≡ number_taken s + 1 → next ≡ text ++ line_if behind_data frame → behind ≡ data_after behind_data frame
    → IsTelling edges (n + 1) new old next behind
telling-more edges n d s new old text next behind_data behind None m h t k l b =
    rw (b, l, append-nil text) (telling-silent edges n d s new old text behind_data m h t k)
telling-more edges n d s new old text next behind_data behind (Some f) m h t k l b =
    rw b (telling-frame edges n d s new old text next behind_data f m h t k l)

-- the lines of all frames of the edges, from frames given
lines-all : (edges : List Edge) (old text : List ℕ) (behind_data : Bool) (given : List TimedFrame)
    → ((more : List TimedFrame) → old ++ story_lines false (given ++ more) ≡ text ++ story_lines behind_data more)
    → timed_frames edges ≡ given → old ++ story_lines false (timed_frames edges) ≡ text
lines-all edges old text behind_data given h t =
    ap (λ fs. old ++ story_lines false fs) (t ∙ sym (append-nil given)) ∙ (h [] ∙ append-nil text)

-- the story, where the lines of all frames are after a text
story-all : (edges : List Edge) (old text : List ℕ) (fault : Option WaveFault) → old ++ story_lines false (timed_frames edges) ≡ text
    → fault ≡ fault_of edges → text ++ last_line fault ≡ old ++ story_of edges
unfolding story_of
story-all edges old text fault h k =
    rw k (ap (λ t. t ++ last_line (fault_of edges)) (sym h) ∙ append_assoc old (story_lines false (timed_frames edges)) (last_line (fault_of edges)))

-- the first edges, the next one and the rest
whole-split : (edges : List Edge) (n : ℕ) (d : Edge) → n < length edges → take n edges ++ get_or edges n d ∷ drop (n + 1) edges ≡ edges
whole-split edges n d m = ap (λ l. take n edges ++ l) (sym (drop_more edges n d m)) ∙ take-append-drop n edges

-- where the next edge is refused, its fault is that of all edges
pub refused-fault-whole : (edges : List Edge) (n : ℕ) (d : Edge) (s : FrameTimer) (old text : List ℕ) (behind_data : Bool) (fault : WaveFault) → n < length edges
    → IsTelling edges n s old text behind_data
    → ((es more : List Edge) (given : List TimedFrame) → HasTold es given s → fault_of (es ++ get_or edges n d ∷ more) ≡ Some fault)
    → Some fault ≡ fault_of edges
refused-fault-whole edges n d s old text behind_data fault m h t =
    sym (ap fault_of (sym (whole-split edges n d m)) ∙ t (take n edges) (drop (n + 1) edges) h.given h.taken)

-- and the text is the story of all edges
pub refused-story : (edges : List Edge) (n : ℕ) (d : Edge) (s : FrameTimer) (old text : List ℕ) (behind_data : Bool) (fault : WaveFault) → n < length edges
    → IsTelling edges n s old text behind_data
    → ((es more : List Edge) (given : List TimedFrame) → HasTold es given s → fault_of (es ++ get_or edges n d ∷ more) ≡ Some fault)
    → ((es more : List Edge) (given : List TimedFrame) → HasTold es given s → timed_frames (es ++ get_or edges n d ∷ more) ≡ given)
    → text ≡ old ++ story_of edges
refused-story edges n d s old text behind_data fault m h t k =
    let all : timed_frames edges ≡ h.given =
    ap timed_frames (sym (whole-split edges n d m)) ∙ k (take n edges) (drop (n + 1) edges) h.given h.taken in
    sym (append-nil text)
    ∙ story-all edges old text (Some fault) (lines-all edges old text behind_data h.given h.lines all) (refused-fault-whole edges n d s old text behind_data fault m h t)

-- at the end all edges were taken, and the text ends with the last line
pub finished-story : (edges : List Edge) (n : ℕ) (s : FrameTimer) (old text : List ℕ) (behind_data : Bool) (fault : Option WaveFault) → length edges ≤ n
    → IsTelling edges n s old text behind_data
    → ((es : List Edge) (given : List TimedFrame) → HasTold es given s → timed_frames es ≡ given)
    → ((es : List Edge) (given : List TimedFrame) → HasTold es given s → fault ≡ fault_of es)
    → (text ++ last_line fault ≡ old ++ story_of edges) × (fault ≡ fault_of edges)
finished-story edges n s old text behind_data fault m h t k =
    let all : take n edges ≡ edges = take_all n edges m in
    let taken : HasTold edges h.given s = subst (λ l. HasTold l h.given s) all h.taken in
    (story-all edges old text fault (lines-all edges old text behind_data h.given h.lines (t edges h.given taken)) (k edges h.given taken), k edges h.given taken)
