mod HomeExamples
mod HomeLemmas
mod TemplateLemmas
