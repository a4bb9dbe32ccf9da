mod Splitting
mod Walking
