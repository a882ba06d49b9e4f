-- The views of the passes: what each of them has put and taken.
use Rattle.std.specs.Prelude.{ℕ, ◌+◌, ◌-◌, true, false, List, [], ◌∷◌, ◌++◌, Some, None}
use Rattle.ix_stages.specs.declared.item.Item.{Item}
use Rattle.ix_stages.specs.declared.course.JobVisits.{JobVisits}
use Rattle.ix_stages.specs.declared.pass_view.PassView.{PassView}
use Rattle.ix_stages.specs.Items.{concat}

-- the pass of a queue whose course isn't named yet
abbrev pub blank : PassView
blank = record { blank = true; parts = 0; course = []; all = 0; maker = false; made = 0; job = None; put = []; taken = []; puts = []; takens = [] }

-- a pass that was joined into another
abbrev pub spent : PassView
spent = record { blank = false; parts = 0; course = []; all = 0; maker = false; made = 0; job = None; put = []; taken = []; puts = []; takens = [] }

-- the pass that makes the seats, with all seats joined in it
abbrev pub root : List JobVisits → ℕ → PassView
root c n = record { blank = false; parts = n; course = c; all = n; maker = true; made = 0; job = None; put = []; taken = []; puts = []; takens = [] }

-- the maker after one more seat
abbrev pub after_seat : PassView → PassView
after_seat v = record { blank = v.blank; parts = v.parts - 1; course = v.course; all = v.all; maker = v.maker; made = v.made + 1; job = v.job; put = v.put; taken = v.taken; puts = v.puts; takens = v.takens }

-- a new seat of the next job
abbrev pub job_pass : PassView → PassView
job_pass v = record { blank = false; parts = 1; course = v.course; all = v.all; maker = false; made = 0; job = Some v.made; put = []; taken = []; puts = []; takens = [] }

-- a new consumer's seat
abbrev pub take_pass : PassView → PassView
take_pass v = record { blank = false; parts = 1; course = v.course; all = v.all; maker = false; made = 0; job = None; put = []; taken = []; puts = []; takens = [] }

-- the pass after it put the item
abbrev pub after_put : PassView → Item → PassView
after_put v x = record { blank = v.blank; parts = v.parts; course = v.course; all = v.all; maker = v.maker; made = v.made; job = v.job; put = v.put ++ x ∷ []; taken = v.taken; puts = v.puts; takens = v.takens }

-- the pass after it took the item
abbrev pub after_take : PassView → Item → PassView
after_take v x = record { blank = v.blank; parts = v.parts; course = v.course; all = v.all; maker = v.maker; made = v.made; job = v.job; put = v.put; taken = v.taken ++ x ∷ []; puts = v.puts; takens = v.takens }

-- the lists of a joined seat are kept apart
abbrev pub after_join : PassView → PassView → PassView
after_join v w = record { blank = v.blank; parts = v.parts + w.parts; course = v.course; all = v.all; maker = v.maker; made = v.made; job = v.job; put = v.put; taken = v.taken; puts = v.puts ++ w.put ∷ []; takens = v.takens ++ w.taken ∷ [] }

-- all that a pass has put, with the seats that were joined into it
abbrev pub all_put : PassView → List Item
all_put v = v.put ++ concat v.puts

-- all that a pass has taken, with the seats that were joined into it
abbrev pub all_taken : PassView → List Item
all_taken v = v.taken ++ concat v.takens
