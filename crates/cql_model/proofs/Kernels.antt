-- The kernels on bags over whole lists.
use Rattle.std.proofs.Common.{◌≡◌, ℕ, zero, suc, ◌+◌, List, [], ◌∷◌, ◌++◌, refl, sym, ap, ◌∙◌, length}
use Rattle.std.proofs.lemmas.List.{append-nil}
use Rattle.river_base.specs.declared.item.Batch.{Batch}
use Rattle.river_base.specs.declared.item.Item as item
use Rattle.river_base.specs.Held.{batches}
use Rattle.work_code.specs.Term.{Term}
use Rattle.kern_bags.specs.Contents.{selected, projected, product, content_of}
use Rattle.kern_bags.specs.Steps.{window_one, streamer_one, last_rows, streamed, Pairing}
use Rattle.kern_bags.specs.declared.kernel.Window.{Window}
use Rattle.kern_bags.specs.declared.kernel.Streamer.{Streamer}
use Rattle.river_kernels.specs.Kern.{window, select, project, cross, streamer}
use Rattle.brooklet_model.specs.Firings.{Kept, Crossing, Fired, feed}
use Rattle.brooklet_model.specs.Fire.{fire, first_kept}
use Rattle.brooklet_model.specs.Words.{run, word_of}
use Rattle.brooklet_model.proofs.Feeds.{feed_word, one_input}
use Rattle.cql_model.specs.Kernels.{batch_item, items, same_instant, contents_from, each_rows, streamed_from, products_from, WindowsAre, SelectsAre, ProjectsAre}
use Rattle.cql_model.specs.Kernels.{StreamersAre, CrossesAre}
use Rattle.cql_model.proofs.Feeding.{given_after, received_fed}
use Rattle.cql_model.proofs.Fed.{waiting, pairing, drained, left_fed, right_one, run-append}

batches_items : (bs : List Batch) → batches (items bs) ≡ bs
batches_items [] = refl
batches_items (b ∷ bs) = ap (λ l. b ∷ l) (batches_items bs)

items-append : (xs bs : List Batch) → items (xs ++ bs) ≡ items xs ++ items bs
items-append [] bs = refl
items-append (a ∷ xs) bs = ap (λ l. batch_item a ∷ l) (items-append xs bs)

windows_from : (w : Window) (past bs : List Batch) → given_after (window_one w) (items past) (items bs) ≡ items (contents_from w past bs)
windows_from w past [] = refl
windows_from w past (b ∷ bs) =
    ap (λ l. batch_item (same_instant b (content_of w (batches l))) ∷ given_after (window_one w) l (items bs)) (sym (items-append past (b ∷ [])))
    ∙ ap (λ l. batch_item (same_instant b (content_of w l)) ∷ given_after (window_one w) (items (past ++ b ∷ [])) (items bs)) (batches_items (past ++ b ∷ []))
    ∙ ap (λ l. batch_item (same_instant b (content_of w (past ++ b ∷ []))) ∷ l) (windows_from w (past ++ b ∷ []) bs)

-- the law of windows
pub windows_are : WindowsAre
windows_are w bs =
    ap (λ (f : Fired). f.outs 0) (one_input (window w) (λ p. items bs) (first_kept (window w)) refl) ∙ received_fed (window_one w) [] (items bs)
    ∙ windows_from w [] bs

selects_from : (e : Term) (bs : List Batch) (ss : List Kept) → (feed (fire (select e) 0) (items bs) ss).outs 0 ≡ items (each_rows (selected e) bs)
selects_from e [] ss = refl
selects_from e (b ∷ bs) ss = ap (λ l. batch_item (same_instant b (selected e b.rows)) ∷ l) (selects_from e bs ss)

-- the law of selections
pub selects_are : SelectsAre
selects_are e bs = ap (λ (f : Fired). f.outs 0) (one_input (select e) (λ p. items bs) (first_kept (select e)) refl) ∙ selects_from e bs []

projects_from : (es : List Term) (bs : List Batch) (ss : List Kept) → (feed (fire (project es) 0) (items bs) ss).outs 0 ≡ items (each_rows (projected es) bs)
projects_from es [] ss = refl
projects_from es (b ∷ bs) ss = ap (λ l. batch_item (same_instant b (projected es b.rows)) ∷ l) (projects_from es bs ss)

-- the law of projections
pub projects_are : ProjectsAre
projects_are es bs = ap (λ (f : Fired). f.outs 0) (one_input (project es) (λ p. items bs) (first_kept (project es)) refl) ∙ projects_from es bs []

last_more : (past : List Batch) (b : Batch) → last_rows (past ++ b ∷ []) ≡ b.rows
last_more [] b = refl
last_more (p ∷ []) b = refl
last_more (p ∷ q ∷ qs) b = last_more (q ∷ qs) b

streams_from : (s : Streamer) (past bs : List Batch) → given_after (streamer_one s) (items past) (items bs) ≡ items (streamed_from s (last_rows past) bs)
streams_from s past [] = refl
streams_from s past (b ∷ bs) =
    ap (λ l. batch_item (same_instant b (streamed s (last_rows l) b.rows)) ∷ given_after (streamer_one s) (items past ++ batch_item b ∷ []) (items bs))
    (batches_items past)
    ∙ ap (λ l. batch_item (same_instant b (streamed s (last_rows past) b.rows)) ∷ given_after (streamer_one s) l (items bs)) (sym (items-append past (b ∷ [])))
    ∙ ap (λ l. batch_item (same_instant b (streamed s (last_rows past) b.rows)) ∷ l)
    (streams_from s (past ++ b ∷ []) bs ∙ ap (λ r. items (streamed_from s r bs)) (last_more past b))

-- the law of streamers
pub streamers_are : StreamersAre
streamers_are s bs =
    ap (λ (f : Fired). f.outs 0) (one_input (streamer s) (λ p. items bs) (first_kept (streamer s)) refl) ∙ received_fed (streamer_one s) [] (items bs)
    ∙ streams_from s [] bs

-- where the first port has no more, the second waits
alone_waits : (n : ℕ) (ys : List item.Item) → drained n (pairing [] ys) ≡ ([], pairing [] ys)
alone_waits zero ys = refl
alone_waits (suc n) ys = refl

right_alone : (bs ys : List item.Item) → (feed (fire cross 1) bs (Crossing (pairing [] ys) ∷ [])).outs 0 ≡ []
right_alone [] ys = refl
right_alone (b ∷ bs) ys =
    ap (λ (d : List item.Item × Pairing). d.0 ++ (feed (fire cross 1) bs (Crossing d.1 ∷ [])).outs 0) (alone_waits (0 + length (ys ++ b ∷ [])) (ys ++ b ∷ []))
    ∙ right_alone bs (ys ++ b ∷ [])

rights_from : (xs bs : List Batch) → (feed (fire cross 1) (items bs) (waiting (items xs))).outs 0 ≡ items (products_from xs bs)
rights_from [] bs = right_alone (items bs) []
rights_from (a ∷ xs) [] = refl
rights_from (a ∷ xs) (b ∷ bs) =
    ap (λ (d : List item.Item × Pairing). d.0 ++ (feed (fire cross 1) (items bs) (Crossing d.1 ∷ [])).outs 0)
    (right_one (batch_item a) (batch_item b) (items xs))
    ∙ ap (λ l. batch_item (same_instant a (product a.rows b.rows)) ∷ l) (rights_from xs bs)

-- the law of products
pub crosses_are : CrossesAre
crosses_are h xs bs e f =
    let left = left_fed (items xs) [] in
    ap (λ l. (run (fire cross) (word_of 0 l ++ (word_of 1 (h 1) ++ [])) (waiting [])).outs 0) e
    ∙ ap (λ l. (run (fire cross) (word_of 0 (items xs) ++ (word_of 1 l ++ [])) (waiting [])).outs 0) f
    ∙ run-append (fire cross) (word_of 0 (items xs)) (word_of 1 (items bs) ++ []) (waiting [])
    ∙ ap (λ (r : Fired). r.outs 0 ++ (run (fire cross) (word_of 1 (items bs) ++ []) r.states).outs 0) (feed_word (fire cross) 0 (items xs) (waiting []))
    ∙ ap (λ l. l ++ (run (fire cross) (word_of 1 (items bs) ++ []) (feed (fire cross 0) (items xs) (waiting [])).states).outs 0) left.0
    ∙ ap (λ st. (run (fire cross) (word_of 1 (items bs) ++ []) st).outs 0) left.1
    ∙ ap (λ w. (run (fire cross) w (waiting (items xs))).outs 0) (append-nil (word_of 1 (items bs)))
    ∙ ap (λ (r : Fired). r.outs 0) (feed_word (fire cross) 1 (items bs) (waiting (items xs)))
    ∙ rights_from xs bs
